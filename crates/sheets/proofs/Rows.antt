-- Rules one after another.
use Rattle.std.proofs.Common.{◌≡◌, ℕ, suc, ◌+◌, ◌-◌, ◌<◌, ◌≤◌, Bool, true, false, ◌||◌, eqb, List, [], ◌∷◌, ◌++◌, map, length, drop, Ok, Err, Result, sym, refl, ap, ◌∙◌, arith}
use mathlib.Core.Path.{fun_ext}
use Rattle.std.proofs.lemmas.List.{length_push, map_push}
use Rattle.std.proofs.lemmas.Bool.{lt-ltb}
use Rattle.std.proofs.lemmas.Bool.Decides.{when_true}
use Rattle.terms.specs.declared.refusal.Refusal.{Refusal}
use Rattle.terms.specs.declared.refusal.Refusal.TheVariants.{RuleCount}
use Rattle.terms.proofs.Replies.{after_ok, after_err}
use Rattle.rules.specs.Lists.{listed, none_of, Pushes}
use Rattle.rules.specs.Rules.{rule_of, empty_rule, elem}
use Rattle.rules.specs.declared.at_most.AtMost.{AtMost}
use Rattle.rules.specs.declared.rule.Rule.{Rule}
use Rattle.layouts.specs.Precedence.{has, empty}
use Rattle.layouts.specs.Reading.{rule_from}
use Rattle.layouts.proofs.Marks.{none_has}
use Rattle.layouts.specs.declared.precedences.Precedences.{Precedences}
use Rattle.sheets.specs.Reading.{precedences, rules_from}
use Rattle.sheets.specs.Tables.{rules_in}

or_swap : (a b c : Bool) → (a || (b || c)) ≡ (b || (a || c))
or_swap true true c = refl
or_swap true false c = refl
or_swap false true c = refl
or_swap false false c = refl

elem_snoc : (p : ℕ) (xs : List ℕ) (x : ℕ) → elem p (xs ++ (x ∷ [])) ≡ (eqb p x || elem p xs)
elem_snoc p [] x = refl
elem_snoc p (y ∷ ys) x = ap (λ b. eqb p y || b) (elem_snoc p ys x) ∙ or_swap (eqb p y) (eqb p x) (elem p ys)

-- what is left of the octets gives the answer, and the precedences met are those of the rules read
pub record Found (t : AtMost Rule 128) (met : Precedences) (count i : ℕ) (ys xs : List ℕ) : Type 0 where
  pub left : rules_from (count - i) (rules_in t) ys ≡ rules_from count [] xs
  pub filled : length (listed t) ≡ i
  pub marks : (p : ℕ) → has met p ≡ elem p (precedences (rules_in t))

pub found_none : (t : AtMost Rule 128) (met : Precedences) (count : ℕ) (xs : List ℕ) → t ≡ none_of empty_rule → met ≡ empty → Found t met count 0 xs xs
found_none t met count xs e m =
    let none : rules_in t ≡ [] = ap rules_in e in
    let all : count - 0 ≡ count = omega arith in
    record {
      left = λ j. rules_from (all j) (none j) xs;
      filled = ap (λ l. length (listed l)) e;
      marks = λ p. ap (λ s. has s p) m ∙ none_has p ∙ sym (ap (λ l. elem p (precedences l)) none);
    }

module _ (t : AtMost Rule 128) (met : Precedences) (count i : ℕ) (ys xs : List ℕ) (turn : i < count) (held : Found t met count i ys xs) where
  test : ◌≡◌ {A = ℕ → Bool} (has met) (λ p. elem p (precedences (rules_in t)))
  test = fun_ext held.marks

  more : count - i ≡ suc (count - (i + 1))
  more = omega arith

  -- there is room for one rule more
  pub found_room : (r : Rule) (done : Result (Unit {0}) Refusal) (t' : AtMost Rule 128) → count ≤ 128 → Pushes RuleCount t r done t' → (done ≡ Ok tt) × (listed t' ≡ listed t ++ (r ∷ []))
  found_room r done t' few p = when_true _ _ (lt-ltb (length (listed t)) 128 (omega (arith, held.filled))) p

  pub found_more : (t' : AtMost Rule 128) (met' : Precedences) (r : Rule) (n : ℕ) (ys' : List ℕ) → rule_from (has met) ys ≡ Ok (rule_of r, n)
      → listed t' ≡ listed t ++ (r ∷ []) → ((p : ℕ) → has met' p ≡ (eqb p r.precedence || has met p)) → ys' ≡ drop n ys
      → Found t' met' count (i + 1) ys' xs
  found_more t' met' r n ys' read push adds rest =
      let says : rules_in t' ≡ rules_in t ++ (rule_of r ∷ []) = ap (map rule_of) push ∙ map_push rule_of (listed t) r in
      let step : rules_from (count - i) (rules_in t) ys ≡ rules_from (count - (i + 1)) (rules_in t ++ (rule_of r ∷ [])) (drop n ys)
      = ap (λ k. rules_from k (rules_in t) ys) more ∙ after_ok _ (ap (λ f. rule_from f ys) (sym test) ∙ read) in
      record {
        left = (λ j. rules_from (count - (i + 1)) (says j) (rest j)) ∙ sym step ∙ held.left;
        filled = ap length push ∙ length_push (listed t) r ∙ omega (arith, held.filled);
        marks = λ p. adds p ∙ ap (λ b. eqb p r.precedence || b) (held.marks p) ∙ sym (ap (λ l. elem p l) (ap precedences says ∙ map_push (λ s. s.precedence) (rules_in t) (rule_of r)) ∙ elem_snoc p (precedences (rules_in t)) r.precedence);
      }

  pub found_stop : (e : Refusal) → rule_from (has met) ys ≡ Err e → rules_from count [] xs ≡ Err e
  found_stop e read = sym held.left ∙ ap (λ k. rules_from k (rules_in t) ys) more ∙ after_err _ (ap (λ f. rule_from f ys) (sym test) ∙ read)
