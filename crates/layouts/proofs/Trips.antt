-- Components, descriptors and rules: what is written is read back, and what is read is what was written.
use Rattle.std.proofs.Common.{◌≡◌, ℕ, zero, suc, Bool, true, false, cond, not, eqb, ◌⊎◌, List, [], ◌∷◌, ◌++◌, length, take, drop, Some, Ok, Option, sym, refl, ap, ◌∙◌, inl, inr, ⊎_elim, append_assoc, append-nil, arith}
use Rattle.std.proofs.lemmas.List.{drop_all, drop_at, take_at, length-append, length-take-le, take-append-drop, map-append}
use Rattle.std.proofs.lemmas.Bool.{and_from, and_parts, eqb-true, not-true, or_cases, or_from, or_parts}
use Rattle.std.proofs.lemmas.Option.{none-some}
use Rattle.octets.specs.Numbers.{Octets}
use Rattle.octets.proofs.Numbers.{octets_take}
use Rattle.terms.proofs.Replies.{after_ok, after_inv}
use Rattle.rules.specs.Components.{type_of, first, kinds, kind_of, kind_in, is_allowed}
use Rattle.rules.specs.Rules.{elem, every, distinct, types_in, all_alone}
use Rattle.rules.specs.declared.component.Component.{Component}
use Rattle.rules.specs.declared.component.Kind.{Kind}
use Rattle.rules.proofs.Sound.{eqb_flip}
use Rattle.layouts.specs.Layout.{value_octets, component_octets, components_octets}
use Rattle.layouts.specs.Reading.{size_of, value_from, clashes, component_from, components_from}
use Rattle.layouts.proofs.Accepts.{ComponentRead, component_ok, component_inv, length_value}
use Rattle.layouts.proofs.Clashes.{distinct_more, alone_more, types_push}
use Rattle.layouts.proofs.Rows.{skip}
use Rattle.layouts.proofs.Values.{kind_known, value_written, value_read}

-- ---- one component

pub component_written : (ts : List ℕ) (c : Component) (rest : List ℕ) → is_allowed c ≡ true → clashes (type_of (kind_in c)) ts ≡ false
    → component_from ts (type_of (kind_in c)) (value_octets c ++ rest) ≡ Ok c
component_written ts c rest in_range apart =
    let front : take (size_of (kind_in c)) (value_octets c ++ rest) ≡ value_octets c = take_at (value_octets c) rest _ (length_value c) in
    component_ok ts (type_of (kind_in c)) (value_octets c ++ rest) (kind_in c) c (kind_known (kind_in c))
    (omega (arith, length-append (value_octets c) rest, length_value c)) apart
    (sym (ap (value_from (kind_in c)) front ∙ value_written c in_range)) in_range

-- a choice of two that came out
pub pick : {A : Type 0} (b : Bool) (y x : A) (o : Option A) → cond b (Some y) o ≡ Some x → ((b ≡ true) × (y ≡ x)) ⊎ ((b ≡ false) × (o ≡ Some x))
pick true y x o e = inl (refl, cc)
pick false y x o e = inr (refl, e)

-- the first that passes a test passes it
first_passes : {A : Type 0} (f : A → Bool) (xs : List A) (x : A) → first f xs ≡ Some x → f x ≡ true
first_passes f [] x e = absurd (none-some _ e)
first_passes f (y ∷ ys) x e = ⊎_elim (λ q. ap f (sym q.1) ∙ q.0) (λ q. first_passes f ys x q.1) (pick (f y) y x (first f ys) e)

kind_type : (t : ℕ) (k : Kind) → kind_of t ≡ Some k → type_of k ≡ t
kind_type t k e = eqb-true (type_of k) t (first_passes (λ x. eqb (type_of x) t) kinds k e)

-- the octets that a component was read from
pub component_read : (ts : List ℕ) (t : ℕ) (xs : List ℕ) (c : Component) → Octets xs → ComponentRead ts t xs c → component_octets c ++ drop (size_of (kind_in c)) xs ≡ t ∷ xs
component_read ts t xs c o shown =
    let n = size_of (kind_in c) in
    let value : value_octets c ≡ take n xs
    = ap value_octets shown.is ∙ value_read (kind_in c) (take n xs) (length-take-le n xs shown.room) (octets_take n xs o) in
    (λ i. kind_type t (kind_in c) shown.known i ∷ (value i ++ drop n xs)) ∙ ap (λ l. t ∷ l) (take-append-drop n xs)

-- ---- components in a row

-- where each differs and match-all stands alone, none clashes with those before it
none_clash : (t : ℕ) (ss rest : List ℕ) → distinct (ss ++ (t ∷ rest)) ≡ true → elem 1 (ss ++ (t ∷ rest)) ≡ false → clashes t ss ≡ false
none_clash t [] rest d n = refl
none_clash t (s ∷ ss) rest d n =
    let p = and_parts (not (elem s (ss ++ (t ∷ rest)))) (distinct (ss ++ (t ∷ rest))) d in
    let q = or_parts (eqb 1 s) (elem 1 (ss ++ (t ∷ rest))) n in
    let apart : eqb t s ≡ false = eqb_flip s t (not_in s ss t rest (not-true _ p.0)) in
    let other : eqb t 1 ≡ false = eqb_flip 1 t (not_in 1 ss t rest q.1) in
    or_from _ _ (or_from _ _ apart (or_from _ _ other (eqb_flip 1 s q.0))) (none_clash t ss rest p.1 q.1)
  where
    not_in : (x : ℕ) (ys : List ℕ) (y : ℕ) (zs : List ℕ) → elem x (ys ++ (y ∷ zs)) ≡ false → eqb x y ≡ false
    not_in x [] y zs e = (or_parts (eqb x y) (elem x zs) e).0
    not_in x (w ∷ ys) y zs e = not_in x ys y zs (or_parts (eqb x w) (elem x (ys ++ (y ∷ zs))) e).1

pub clash_free : (t : ℕ) (ss rest : List ℕ) → distinct (ss ++ (t ∷ rest)) ≡ true → all_alone (ss ++ (t ∷ rest)) ≡ true → clashes t ss ≡ false
clash_free t [] rest d a = refl
clash_free t (s ∷ ss) rest d a =
    ⊎_elim (λ p. none_clash t (s ∷ ss) rest d (not-true _ p))
    (λ p. absurd (let one = eqb-true _ 1 p in omega (arith, one, length-append ss (t ∷ rest))))
    (or_cases (not (elem 1 (s ∷ (ss ++ (t ∷ rest))))) (eqb (length (s ∷ (ss ++ (t ∷ rest)))) 1) a)

pub components_written : (cs before : List Component) → every is_allowed cs ≡ true → distinct (types_in (before ++ cs)) ≡ true → all_alone (types_in (before ++ cs)) ≡ true
    → components_from before 0 (components_octets cs) ≡ Ok (before ++ cs)
components_written [] before values d a = ap (λ l. Ok l) (sym (append-nil before))
components_written (c ∷ cs) before values d a =
    let p = and_parts (is_allowed c) (every is_allowed cs) values in
    let t = type_of (kind_in c) in
    let types : types_in (before ++ (c ∷ cs)) ≡ types_in before ++ (t ∷ types_in cs) = map-append (λ x. type_of (kind_in x)) before (c ∷ cs) in
    let apart = clash_free t (types_in before) (types_in cs) (rw types at d) (rw types at a) in
    let next : before ++ (c ∷ cs) ≡ (before ++ (c ∷ [])) ++ cs = sym (append_assoc before (c ∷ []) cs) in
    after_ok _ (component_written (types_in before) c (components_octets cs) p.0 apart)
    ∙ skip (before ++ (c ∷ [])) (size_of (kind_in c)) (value_octets c ++ components_octets cs)
    ∙ ap (components_from (before ++ (c ∷ [])) 0) (drop_at (value_octets c) (components_octets cs) _ (length_value c))
    ∙ components_written cs (before ++ (c ∷ [])) p.1 (rw next at d) (rw next at a)
    ∙ ap (λ l. Ok l) (sym next)

-- what components that were read show
pub record ComponentsRead (before : List Component) (xs : List ℕ) (cs : List Component) : Type 0 where
  pub more : List Component
  pub is : cs ≡ before ++ more
  pub octets : components_octets more ≡ xs
  pub values : every is_allowed more ≡ true
  pub differ : distinct (types_in cs) ≡ true
  pub alone : all_alone (types_in cs) ≡ true

pub components_read : (before : List Component) (n : ℕ) (xs : List ℕ) (cs : List Component) → Octets xs
    → distinct (types_in before) ≡ true → all_alone (types_in before) ≡ true → components_from before n xs ≡ Ok cs → ComponentsRead before (drop n xs) cs
components_read before n [] cs o d a e =
    let same : before ≡ cs = cc in
    record {
      more = [];
      is = sym same ∙ sym (append-nil before);
      octets = sym (drop_all n [] (omega arith));
      values = refl;
      differ = ap (λ l. distinct (types_in l)) (sym same) ∙ d;
      alone = ap (λ l. all_alone (types_in l)) (sym same) ∙ a;
    }
components_read before (suc n) (x ∷ xs) cs o d a e = components_read before n xs cs (λ i. o (suc i)) d a e
components_read before zero (t ∷ xs) cs o d a e =
    let (c, found, e') = after_inv (component_from (types_in before) t xs) _ cs e in
    let shown = component_inv (types_in before) t xs c found in
    let u = type_of (kind_in c) in
    let push = types_push before c in
    let behind : Octets xs = λ i. o (suc i) in
    let rest = components_read (before ++ (c ∷ [])) (size_of (kind_in c)) xs cs behind
    (ap distinct push ∙ distinct_more u (types_in before) shown.apart d) (ap all_alone push ∙ alone_more u (types_in before) shown.apart) e' in
    record {
      more = c ∷ rest.more;
      is = rest.is ∙ append_assoc before (c ∷ []) rest.more;
      octets = ap (λ l. component_octets c ++ l) rest.octets ∙ component_read (types_in before) t xs c behind shown;
      values = and_from _ _ shown.in_range rest.values;
      differ = rest.differ;
      alone = rest.alone;
    }
