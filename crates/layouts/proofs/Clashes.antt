-- Laws of components that clash.
use Rattle.std.proofs.Common.{◌≡◌, ℕ, true, false, ◌||◌, eqb, List, [], ◌∷◌, ◌++◌, refl, ap}
use Rattle.std.specs.List.{list_any}
use Rattle.std.proofs.lemmas.List.{map_push}
use Rattle.std.proofs.lemmas.Bool.{not_from_false, or_from, or_left, or_parts, or_right}
use Rattle.rules.specs.Components.{type_of, kind_in}
use Rattle.rules.specs.Rules.{elem, distinct, types_in, all_alone}
use Rattle.rules.proofs.Sound.{eqb_flip, elem_push, distinct_push}
use Rattle.rules.specs.declared.component.Component.{Component}
use Rattle.layouts.specs.Reading.{clash, clashes}

-- whether any of them clashes
pub clashes_any : (t : ℕ) (cs : List Component) → list_any (λ c. clash t (type_of (kind_in c))) cs ≡ clashes t (types_in cs)
clashes_any t [] = refl
clashes_any t (c ∷ cs) = ap (λ b. clash t (type_of (kind_in c)) || b) (clashes_any t cs)

-- ---- one more component that clashes with none

no_clash : (t : ℕ) (ss : List ℕ) → clashes t ss ≡ false → elem t ss ≡ false
no_clash t [] e = refl
no_clash t (s ∷ ss) e =
    let p = or_parts (clash t s) (clashes t ss) e in
    or_from _ _ (or_parts (eqb t s) _ p.0).0 (no_clash t ss p.1)

-- with another there, neither is match-all
no_all : (t : ℕ) (ss : List ℕ) → clashes t ss ≡ false → elem 1 ss ≡ false
no_all t [] e = refl
no_all t (s ∷ ss) e =
    let p = or_parts (clash t s) (clashes t ss) e in
    let q = or_parts (eqb t s) (eqb t 1 || eqb s 1) p.0 in
    or_from _ _ (eqb_flip s 1 (or_parts (eqb t 1) (eqb s 1) q.1).1) (no_all t ss p.1)

pub distinct_more : (t : ℕ) (ss : List ℕ) → clashes t ss ≡ false → distinct ss ≡ true → distinct (ss ++ (t ∷ [])) ≡ true
distinct_more t ss e d = distinct_push ss t d (no_clash t ss e)

pub alone_more : (t : ℕ) (ss : List ℕ) → clashes t ss ≡ false → all_alone (ss ++ (t ∷ [])) ≡ true
alone_more t [] e = or_right _ _ refl
alone_more t (s ∷ ss) e =
    let p = or_parts (clash t s) (clashes t ss) e in
    let q = or_parts (eqb t s) (eqb t 1 || eqb s 1) p.0 in
    or_left _ _ (not_from_false _ (elem_push 1 (s ∷ ss) t (no_all t (s ∷ ss) e) (eqb_flip t 1 (or_parts (eqb t 1) (eqb s 1) q.1).0)))

pub types_push : (cs : List Component) (c : Component) → types_in (cs ++ (c ∷ [])) ≡ types_in cs ++ (type_of (kind_in c) ∷ [])
types_push cs c = map_push (λ x. type_of (kind_in x)) cs c
