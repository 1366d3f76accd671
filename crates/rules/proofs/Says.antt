-- Rules by what they say.
use Rattle.std.proofs.Common.{◌≡◌, Bool, List, Decides, sym, ap, ◌∙◌}
use Rattle.rules.specs.Rules.{SteeringRule}
use Rattle.rules.specs.declared.component.Component.{Component}

-- rules with equal precedence and descriptor say the same exactly where their components are equal
pub same_said : (x y : SteeringRule) (r : Bool) (xs ys : List Component) → xs ≡ x.components → ys ≡ y.components → x.precedence ≡ y.precedence → x.descriptor ≡ y.descriptor → Decides r (xs ≡ ys) → Decides r (x ≡ y)
same_said x y r xs ys p q e f d = (
  (λ t. let cs : x.components ≡ y.components = sym p ∙ d.0 t ∙ q in λ i. record { precedence = e i; components = cs i; descriptor = f i }),
  λ same. d.1 (p ∙ ap (λ s. s.components) same ∙ sym q),
)
