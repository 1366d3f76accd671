-- Access descriptors, there and back.
use Rattle.std.proofs.Common.{◌≡◌, ◌≢◌, ℕ, ◌+◌, ◌≤◌, Bool, true, false, cond, ◌&&◌, eqb, leb, ◌⊎◌, List, [], ◌∷◌, length, get_or, drop, Some, None, Option, sym, refl, ap, ◌∙◌, subst, ap₂, inl, inr, ⊎_elim, arith}
use Rattle.std.proofs.lemmas.Option.{none-some}
use Rattle.std.proofs.lemmas.Bool.{and_from, and_parts, cond-true, eq-eqb, eqb-true, le-leb, leb-true, ne_eqb}
use Rattle.terms.specs.Accesses.{code_of}
use Rattle.terms.specs.declared.access.Access.{Access}
use Rattle.terms.specs.declared.access.Access.TheVariants.{ThreeGpp, NonThreeGpp}
use Rattle.rules.specs.Descriptors.{functionality_code, functionality_from, is_allowed_mode}
use Rattle.rules.specs.declared.descriptor.Descriptor.{Descriptor}
use Rattle.rules.specs.declared.descriptor.Functionality.{Functionality}
use Rattle.rules.specs.declared.descriptor.Functionality.TheVariants.{OnlyOne, Mptcp, AtsssLl}
use Rattle.rules.specs.declared.descriptor.Mode.{Mode}
use Rattle.rules.specs.declared.descriptor.Mode.TheVariants.{ActiveStandby, SmallestDelay, LoadBalancing, Priority}
use Rattle.layouts.specs.Layout.{mode_code, information, descriptor_octets}
use Rattle.layouts.specs.Reading.{active_from, priority_from, mode_from, descriptor_of, descriptor_from}
use Rattle.layouts.proofs.Trips.{pick}

functionality_written : (f : Functionality) → functionality_from (functionality_code f) ≡ Some f
functionality_written OnlyOne = refl
functionality_written Mptcp = refl
functionality_written AtsssLl = refl

mode_written : (m : Mode) → is_allowed_mode m ≡ true → mode_from (mode_code m) (information m) ≡ Some m
mode_written (ActiveStandby ThreeGpp false) h = refl
mode_written (ActiveStandby ThreeGpp true) h = refl
mode_written (ActiveStandby NonThreeGpp false) h = refl
mode_written (ActiveStandby NonThreeGpp true) h = refl
mode_written SmallestDelay h = refl
mode_written (LoadBalancing k) h = cond-true (leb 1 k && leb k 11) _ _ h
mode_written (Priority ThreeGpp) h = refl
mode_written (Priority NonThreeGpp) h = refl

pub descriptor_written : (d : Descriptor) → is_allowed_mode d.mode ≡ true → descriptor_from (descriptor_octets d) ≡ Some d
descriptor_written d h =
    let n = length (information d.mode) in
    let long : leb 3 (length (descriptor_octets d)) ≡ true = le-leb 3 _ (omega arith) in
    let own : eqb (3 + n) (length (descriptor_octets d)) ≡ true = eq-eqb (3 + n) (length (descriptor_octets d)) (omega arith) in
    cond-true (leb 3 (length (descriptor_octets d)) && eqb (3 + n) (length (descriptor_octets d))) _ _ (and_from _ _ long own)
    ∙ ap₂ descriptor_of (functionality_written d.functionality) (mode_written d.mode h)

-- information that is the code of no access
pub priority_none : (i : ℕ) → ((a : Access) → i ≢ code_of a) → priority_from i ≡ None
priority_none i h =
    let one : eqb i 1 ≡ false = ne_eqb i 1 (h ThreeGpp) in
    let two : eqb i 2 ≡ false = ne_eqb i 2 (h NonThreeGpp) in
    (λ j. cond (one j) (Some (Priority ThreeGpp)) (cond (two j) (Some (Priority NonThreeGpp)) None))

-- ---- what was read, case by case

-- one case, and those behind it
case : {A : Type 0} (P : A → Type 0) (b : Bool) (y x : A) (o : Option A) → cond b (Some y) o ≡ Some x → (b ≡ true → P y) → (o ≡ Some x → P x) → P x
case P b y x o e here on = ⊎_elim (λ q. subst P q.1 (here q.0)) (λ q. on q.1) (pick b y x o e)

branch : {A : Type 0} (P : Type 0) (b : Bool) (x : A) (o p : Option A) → cond b o p ≡ Some x → (b ≡ true → o ≡ Some x → P) → (p ≡ Some x → P) → P
branch P true x o p e here on = here refl e
branch P false x o p e here on = on e

functionality_read : (n : ℕ) (f : Functionality) → functionality_from n ≡ Some f → functionality_code f ≡ n
functionality_read n f e =
    let P : Functionality → Type 0 = λ g. functionality_code g ≡ n in
    case P (eqb n 1) OnlyOne f _ e (λ h. sym (eqb-true n 1 h)) (λ e₁.
    case P (eqb n 2) Mptcp f _ e₁ (λ h. sym (eqb-true n 2 h)) (λ e₂.
    case P (eqb n 3) AtsssLl f None e₂ (λ h. sym (eqb-true n 3 h)) (λ e₃. absurd (none-some _ e₃))))

-- the mode has this code and this information
Coded : ℕ → List ℕ → Mode → Type 0
Coded m is x = (mode_code x ≡ m) × (information x ≡ is) × (is_allowed_mode x ≡ true)

active_read : (i : ℕ) (x : Mode) → active_from i ≡ Some x → Coded 1 (i ∷ []) x
unfolding Coded
active_read i x e =
    let says : (n : ℕ) → eqb i n ≡ true → n ∷ [] ≡ i ∷ [] = λ n h. ap (λ k. k ∷ []) (sym (eqb-true i n h)) in
    case (Coded 1 (i ∷ [])) (eqb i 1) (ActiveStandby ThreeGpp false) x _ e (λ h. (refl, says 1 h, refl)) (λ e₁.
    case (Coded 1 (i ∷ [])) (eqb i 2) (ActiveStandby ThreeGpp true) x _ e₁ (λ h. (refl, says 2 h, refl)) (λ e₂.
    case (Coded 1 (i ∷ [])) (eqb i 3) (ActiveStandby NonThreeGpp false) x _ e₂ (λ h. (refl, says 3 h, refl)) (λ e₃.
    case (Coded 1 (i ∷ [])) (eqb i 4) (ActiveStandby NonThreeGpp true) x None e₃ (λ h. (refl, says 4 h, refl)) (λ e₄. absurd (none-some _ e₄)))))

priority_read : (i : ℕ) (x : Mode) → priority_from i ≡ Some x → Coded 4 (i ∷ []) x
unfolding Coded
priority_read i x e =
    let says : (n : ℕ) → eqb i n ≡ true → n ∷ [] ≡ i ∷ [] = λ n h. ap (λ k. k ∷ []) (sym (eqb-true i n h)) in
    case (Coded 4 (i ∷ [])) (eqb i 1) (Priority ThreeGpp) x _ e (λ h. (refl, says 1 h, refl)) (λ e₁.
    case (Coded 4 (i ∷ [])) (eqb i 2) (Priority NonThreeGpp) x None e₁ (λ h. (refl, says 2 h, refl)) (λ e₂. absurd (none-some _ e₂)))

load_read : (i : ℕ) (x : Mode) → cond (leb 1 i && leb i 11) (Some (LoadBalancing i)) None ≡ Some x → Coded 3 (i ∷ []) x
unfolding Coded
load_read i x e = case (Coded 3 (i ∷ [])) (leb 1 i && leb i 11) (LoadBalancing i) x None e (λ h. (refl, refl, h)) (λ e₁. absurd (none-some _ e₁))

mode_read : (m : ℕ) (is : List ℕ) (x : Mode) → mode_from m is ≡ Some x → Coded m is x
unfolding Coded
mode_read m [] x e = case (Coded m []) (eqb m 2) SmallestDelay x None e (λ h. (sym (eqb-true m 2 h), refl, refl)) (λ e₁. absurd (none-some _ e₁))
mode_read m (i ∷ []) x e =
    let says : (n : ℕ) → eqb m n ≡ true → Coded n (i ∷ []) x → Coded m (i ∷ []) x = λ n h k. (k.0 ∙ sym (eqb-true m n h), k.1, k.2) in
    branch (Coded m (i ∷ []) x) (eqb m 1) x _ _ e (λ h f. says 1 h (active_read i x f)) (λ e₁.
    branch (Coded m (i ∷ []) x) (eqb m 3) x _ _ e₁ (λ h f. says 3 h (load_read i x f)) (λ e₂.
    branch (Coded m (i ∷ []) x) (eqb m 4) x _ _ e₂ (λ h f. says 4 h (priority_read i x f)) (λ e₃. absurd (none-some _ e₃))))
mode_read m (i ∷ (j ∷ is)) x e = absurd (none-some _ e)

descriptor_parts : (f : Option Functionality) (m : Option Mode) (d : Descriptor) → descriptor_of f m ≡ Some d → (f ≡ Some d.functionality) × (m ≡ Some d.mode)
descriptor_parts None m d e = absurd (none-some _ e)
descriptor_parts (Some f) None d e = absurd (none-some _ e)
descriptor_parts (Some f) (Some m) d e =
    let same : record { functionality = f; mode = m } ≡ d = cc in
    (ap (λ x. Some x.functionality) same, ap (λ x. Some x.mode) same)

pub descriptor_read : (xs : List ℕ) (d : Descriptor) → descriptor_from xs ≡ Some d → (descriptor_octets d ≡ xs) × (is_allowed_mode d.mode ≡ true)
unfolding Coded
descriptor_read xs d e =
    branch _ (leb 3 (length xs) && eqb (get_or xs 0 0) (length xs)) d _ None e (λ h f.
    let q = and_parts (leb 3 (length xs)) (eqb (get_or xs 0 0) (length xs)) h in
    let parts = descriptor_parts (functionality_from (get_or xs 1 0)) (mode_from (get_or xs 2 0) (drop 3 xs)) d f in
    let functionality = functionality_read (get_or xs 1 0) d.functionality parts.0 in
    let mode = mode_read (get_or xs 2 0) (drop 3 xs) d.mode parts.1 in
    (whole xs d (leb-true 3 (length xs) q.0) (eqb-true _ _ q.1) functionality mode.0 mode.1, mode.2))
    (λ f. absurd (none-some _ f))
  where
    whole : (ys : List ℕ) (x : Descriptor) → 3 ≤ length ys → get_or ys 0 0 ≡ length ys → functionality_code x.functionality ≡ get_or ys 1 0 → mode_code x.mode ≡ get_or ys 2 0 → information x.mode ≡ drop 3 ys → descriptor_octets x ≡ ys
    whole [] x l own f m i = absurd (omega arith)
    whole (a ∷ []) x l own f m i = absurd (omega arith)
    whole (a ∷ (b ∷ [])) x l own f m i = absurd (omega arith)
    whole (a ∷ (b ∷ (c ∷ ys))) x l own f m i =
        let size : 3 + length (information x.mode) ≡ a = omega (arith, own, ap length i) in
        λ j. size j ∷ (f j ∷ (m j ∷ i j))

pub length_information : (m : Mode) → (length (information m) ≡ 0) ⊎ (length (information m) ≡ 1)
length_information (ActiveStandby ThreeGpp false) = inr refl
length_information (ActiveStandby ThreeGpp true) = inr refl
length_information (ActiveStandby NonThreeGpp false) = inr refl
length_information (ActiveStandby NonThreeGpp true) = inr refl
length_information SmallestDelay = inl refl
length_information (LoadBalancing k) = inr refl
length_information (Priority first) = inr refl
