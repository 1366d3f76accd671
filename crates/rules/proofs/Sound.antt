-- Laws of soundness: numbers that differ, components that stand together, and how many of them can.
use Rattle.std.proofs.Common.{◌≡◌, ℕ, ◌≤◌, true, false, not, ◌||◌, eqb, List, [], ◌∷◌, ◌++◌, map, length, sym, refl, ap, ◌∙◌, ⊎_elim, arith}
use Rattle.std.specs.List.{AllByRecursion, IsDistinct, list_any}
use Rattle.std.proofs.lemmas.Cmp.{nat_eq_equiv}
use Rattle.std.proofs.lemmas.List.{length-map}
use Rattle.std.proofs.lemmas.Map.Made.{length-le_from_is_member}
use Rattle.std.proofs.lemmas.Bool.{and_from, and_parts, eqb-true, false≢true, ne_eqb, eq-eqb, not_from_false, not-true, or_cases, or_from, or_parts}
use Rattle.rules.specs.Components.{type_of, kind_in}
use Rattle.rules.specs.Rules.{elem, every, distinct, types_in, all_alone}
use Rattle.rules.specs.declared.component.Component.{Component}
use Rattle.rules.specs.declared.component.Kind.{Kind}
use Rattle.rules.specs.declared.component.Kind.TheVariants.{MatchAll, Ipv4, Ipv6, Protocol, Port, PortRange, SecurityIndex, ServiceType, FlowLabel}

pub eqb_flip : (a b : ℕ) → eqb a b ≡ false → eqb b a ≡ false
eqb_flip a b e = ne_eqb b a (λ p. false≢true (sym e ∙ eq-eqb a b (sym p)))

pub elem_push : (x : ℕ) (ys : List ℕ) (y : ℕ) → elem x ys ≡ false → eqb x y ≡ false → elem x (ys ++ (y ∷ [])) ≡ false
elem_push x [] y e f = or_from _ _ f refl
elem_push x (z ∷ ys) y e f = let p = or_parts (eqb x z) (elem x ys) e in or_from _ _ p.0 (elem_push x ys y p.1 f)

pub distinct_push : (xs : List ℕ) (x : ℕ) → distinct xs ≡ true → elem x xs ≡ false → distinct (xs ++ (x ∷ [])) ≡ true
distinct_push [] x d e = refl
distinct_push (y ∷ ys) x d e =
    let p = and_parts (not (elem y ys)) (distinct ys) d in
    let q = or_parts (eqb x y) (elem x ys) e in
    and_from _ _ (not_from_false _ (elem_push y ys x (not-true _ p.0) (eqb_flip x y q.0))) (distinct_push ys x p.1 q.1)

-- ---- numbers that differ, all of them among others, are no more than those

elem_any : (n : ℕ) (xs : List ℕ) → elem n xs ≡ list_any (eqb n) xs
elem_any n [] = refl
elem_any n (x ∷ xs) = ap (λ b. eqb n x || b) (elem_any n xs)

apart : (x : ℕ) (ys : List ℕ) → elem x ys ≡ false → AllByRecursion (λ y. eqb x y ≡ false) ys
apart x [] e = tt
apart x (y ∷ ys) e = let p = or_parts (eqb x y) (elem x ys) e in (p.0, apart x ys p.1)

differ : (xs : List ℕ) → distinct xs ≡ true → IsDistinct eqb xs
unfolding IsDistinct
differ [] d = tt
differ (x ∷ xs) d = let p = and_parts (not (elem x xs)) (distinct xs) d in (apart x xs (not-true _ p.0), differ xs p.1)

among : (q : ℕ) (xs ys : List ℕ) → every (λ z. elem z ys) xs ≡ true → elem q xs ≡ true → elem q ys ≡ true
among q [] ys e m = absurd (false≢true m)
among q (x ∷ xs) ys e m =
    let p = and_parts (elem x ys) (every (λ z. elem z ys) xs) e in
    ⊎_elim (λ same. ap (λ n. elem n ys) (eqb-true q x same) ∙ p.0) (λ more. among q xs ys p.1 more) (or_cases (eqb q x) (elem q xs) m)

pub few_of : (xs ys : List ℕ) → distinct xs ≡ true → every (λ z. elem z ys) xs ≡ true → length xs ≤ length ys
few_of xs ys d e = length-le_from_is_member nat_eq_equiv xs ys (differ xs d) (λ q m. sym (elem_any q ys) ∙ among q xs ys e (elem_any q xs ∙ m))

-- ---- components

others : List ℕ
others = map type_of (Ipv4 ∷ (Ipv6 ∷ (Protocol ∷ (Port ∷ (PortRange ∷ (SecurityIndex ∷ (ServiceType ∷ (FlowLabel ∷ []))))))))

other : (k : Kind) → eqb 1 (type_of k) ≡ false → elem (type_of k) others ≡ true
unfolding others
other MatchAll n = absurd (false≢true (sym n))
other Ipv4 n = refl
other Ipv6 n = refl
other Protocol n = refl
other Port n = refl
other PortRange n = refl
other SecurityIndex n = refl
other ServiceType n = refl
other FlowLabel n = refl

all_others : (cs : List Component) → elem 1 (types_in cs) ≡ false → every (λ t. elem t others) (types_in cs) ≡ true
all_others [] n = refl
all_others (c ∷ cs) n = let p = or_parts (eqb 1 (type_of (kind_in c))) (elem 1 (types_in cs)) n in and_from _ _ (other (kind_in c) p.0) (all_others cs p.1)

-- nine types, of which match-all stands alone: at most eight components
pub few_components : (cs : List Component) → distinct (types_in cs) ≡ true → all_alone (types_in cs) ≡ true → length cs ≤ 8
unfolding others
few_components cs d a =
    let same : length (types_in cs) ≡ length cs = length-map cs _ in
    ⊎_elim
    (λ p. let none = few_of (types_in cs) others d (all_others cs (not-true _ p)) in omega (arith, none, same))
    (λ p. omega (arith, eqb-true _ _ p, same))
    (or_cases (not (elem 1 (types_in cs))) (eqb (length (types_in cs)) 1) a)
