-- Components one after another.
use Rattle.std.proofs.Common.{◌≡◌, ℕ, zero, suc, ◌+◌, ◌<◌, true, false, eqb, List, [], ◌∷◌, ◌++◌, length, get_or, drop, Ok, Err, MatchBool, Result, sym, refl, ap, ◌∙◌, subst, not-suc-le-zero, arith}
use Rattle.std.proofs.lemmas.List.{drop-drop, length_push, nil_from_length}
use Rattle.std.proofs.lemmas.Bool.{lt-ltb}
use Rattle.terms.specs.Replies.{refuse_if, after}
use Rattle.terms.specs.declared.refusal.Refusal.{Refusal}
use Rattle.terms.specs.declared.refusal.Refusal.TheVariants as refusal
use Rattle.terms.proofs.Replies.{after_ok}
use Rattle.rules.specs.Components.{type_of, kind_in}
use Rattle.rules.specs.Lists.{listed, Pushes}
use Rattle.rules.specs.Rules.{distinct, types_in, all_alone}
use Rattle.rules.specs.declared.component.Component.{Component}
use Rattle.rules.specs.declared.at_most.AtMost.{AtMost}
use Rattle.rules.proofs.Sound.{few_components}
use Rattle.layouts.specs.Reading.{size_of, clashes, component_from, components_from, components_in}
use Rattle.layouts.proofs.Accepts.{ComponentRead, component_inv}
use Rattle.layouts.proofs.Clashes.{distinct_more, alone_more, types_push}

-- the octets of a value are passed
pub skip : (cs : List Component) (n : ℕ) (ys : List ℕ) → components_from cs n ys ≡ components_from cs 0 (drop n ys)
skip cs zero ys = refl
skip cs (suc n) [] = refl
skip cs (suc n) (y ∷ ys) = skip cs n ys

-- the component at the front of octets, behind those read so far
abbrev pub front_of : List Component → List ℕ → Result Component Refusal
front_of cs ys = component_from (types_in cs) (get_or ys 0 0) (drop 1 ys)

one_on : (cs : List Component) (ys : List ℕ) → 0 < length ys
    → components_from cs 0 ys ≡ after (front_of cs ys) (λ c. components_from (cs ++ (c ∷ [])) (size_of (kind_in c)) (drop 1 ys))
one_on cs [] h = absurd (not-suc-le-zero h)
one_on cs (y ∷ ys) h = refl

module _ (cs : List Component) (ys : List ℕ) (some : 0 < length ys) where
  pub on : (c : Component) → front_of cs ys ≡ Ok c → components_from cs 0 ys ≡ components_from (cs ++ (c ∷ [])) 0 (drop (1 + size_of (kind_in c)) ys)
  on c e =
      let n = size_of (kind_in c) in
      one_on cs ys some ∙ after_ok _ e ∙ skip (cs ++ (c ∷ [])) n (drop 1 ys) ∙ ap (components_from (cs ++ (c ∷ [])) 0) (drop-drop n 1 ys)

pub done : (cs : List Component) (ys xs : List ℕ) → length ys ≡ 0 → components_from cs 0 ys ≡ components_from [] 0 xs
    → components_in xs ≡ refuse_if (eqb (length cs) 0) refusal.Components (Ok cs)
done cs ys xs none inv = after_ok _ (sym inv ∙ ap (components_from cs 0) (nil_from_length ys none))

-- what may stand together is no more than the array has room for
module _ (cs : List Component) (c : Component) (apart : clashes (type_of (kind_in c)) (types_in cs) ≡ false) (differ : distinct (types_in cs) ≡ true) where
  differ_more : distinct (types_in (cs ++ (c ∷ []))) ≡ true
  differ_more = rw (types_push cs c) (distinct_more (type_of (kind_in c)) (types_in cs) apart differ)

  alone_too : all_alone (types_in (cs ++ (c ∷ []))) ≡ true
  alone_too = rw (types_push cs c) (alone_more (type_of (kind_in c)) (types_in cs) apart)

  room : length cs < 8
  room = omega (arith, few_components (cs ++ (c ∷ [])) differ_more alone_too, length_push cs c)

-- what is left of the octets gives the answer, and those found so far may stand together
pub record Found (f : AtMost Component 8) (ys xs : List ℕ) : Type 0 where
  pub left : components_from (listed f) 0 ys ≡ components_from [] 0 xs
  pub differ : distinct (types_in (listed f)) ≡ true

module _ (f : AtMost Component 8) (ys xs : List ℕ) (c : Component) (some : 0 < length ys) (held : Found f ys xs) (read : front_of (listed f) ys ≡ Ok c) where
  shown : ComponentRead (types_in (listed f)) (get_or ys 0 0) (drop 1 ys) c
  shown = component_inv (types_in (listed f)) (get_or ys 0 0) (drop 1 ys) c read

  -- there is room for it
  pub found_room : (r : Result (Unit {0}) Refusal) (f' : AtMost Component 8) → Pushes refusal.Components f c r f' → (r ≡ Ok tt) × (listed f' ≡ listed f ++ (c ∷ []))
  found_room r f' p =
      subst (λ b. MatchBool b ((r ≡ Ok tt) × (listed f' ≡ listed f ++ (c ∷ []))) ((r ≡ Err refusal.Components) × (f' ≡ f)))
      (lt-ltb (length (listed f)) 8 (room (listed f) c shown.apart held.differ)) p

  pub found_more : (f' : AtMost Component 8) (ys' : List ℕ) → listed f' ≡ listed f ++ (c ∷ []) → ys' ≡ drop (1 + size_of (kind_in c)) ys → Found f' ys' xs
  found_more f' ys' push rest =
      record {
        left = rw (push, rest) (sym (on (listed f) ys some c read) ∙ held.left);
        differ = rw push (differ_more (listed f) c shown.apart held.differ);
      }
