-- What a rule says, and which sets of rules are sound.
use Rattle.std.specs.Prelude.{ℕ, Bool, true, false, not, ◌&&◌, ◌||◌, List, [], ◌∷◌, map, length, ◌==◌, nat_le}
use Rattle.std.specs.Cmp.Lexicographic.{pointwise}
use Rattle.rules.specs.Components.{type_of, kind_in, holds, is_allowed, same_component, no_components}
use Rattle.rules.specs.Descriptors.{is_allowed_mode, same_descriptor}
use Rattle.rules.specs.Lists.{listed}
use Rattle.rules.specs.declared.component.Component.{Component}
use Rattle.rules.specs.declared.descriptor.Descriptor.{Descriptor}
use Rattle.rules.specs.declared.descriptor.Functionality.TheVariants.{OnlyOne}
use Rattle.rules.specs.declared.descriptor.Mode.TheVariants.{SmallestDelay}
use Rattle.rules.specs.declared.rule.Rule.{Rule}

-- a rule, by what it says
pub record SteeringRule : Type 0 where
  pub precedence : ℕ
  pub components : List Component
  pub descriptor : Descriptor

abbrev pub rule_of : Rule → SteeringRule
rule_of r = record { precedence = r.precedence; components = listed r.components; descriptor = r.descriptor }

-- what stands where there is no rule: a rule of no component
abbrev pub empty_rule : Rule
empty_rule =
    record {
      precedence = 0;
      components = no_components;
      descriptor = record { functionality = OnlyOne; mode = SmallestDelay };
    }

-- whether two rules say the same
abbrev pub same_rule : SteeringRule → SteeringRule → Bool
same_rule x y = x.precedence == y.precedence && (pointwise same_component x.components y.components && same_descriptor x.descriptor y.descriptor)

abbrev pub elem : ℕ → List ℕ → Bool
elem n [] = false
elem n (x ∷ xs) = n == x || elem n xs

abbrev pub every : {A : Type 0} → (A → Bool) → List A → Bool
every f [] = true
every f (x ∷ xs) = f x && every f xs

-- no number stands twice
abbrev pub distinct : List ℕ → Bool
distinct [] = true
distinct (x ∷ xs) = not (elem x xs) && distinct xs

abbrev pub types_in : List Component → List ℕ
types_in cs = map (λ c. type_of (kind_in c)) cs

-- match-all stands alone
abbrev pub all_alone : List ℕ → Bool
all_alone ts = not (elem 0x01 ts) || length ts == 1

abbrev pub sound_components : List Component → Bool
sound_components cs = nat_le 1 (length cs) && (distinct (types_in cs) && (all_alone (types_in cs) && every is_allowed cs))

abbrev pub sound_rule : SteeringRule → Bool
sound_rule r = holds 1 r.precedence && (sound_components r.components && is_allowed_mode r.descriptor.mode)

-- 1 to 128 rules, each of them sound, and their precedences differ
abbrev pub sound : List SteeringRule → Bool
sound rs = nat_le 1 (length rs) && (nat_le (length rs) 128 && (every sound_rule rs && distinct (map (λ r. r.precedence) rs)))
