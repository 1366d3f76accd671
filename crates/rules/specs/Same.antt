-- Laws of `==`: each comparison decides whether two values are equal.
use Rattle.std.proofs.Common.{◌≡◌, true, IsTrue, ◌↔◌, Decides, ap, subst, refl, arith}
use Rattle.std.specs.Cmp.{IsEquivalence, decided}
use Rattle.std.proofs.lemmas.Slice.Eq.{slice_eq-Decides}
use Rattle.std.proofs.lemmas.Bool.Decides.{nat_tests, Decides-and, Decides-eqb, Decides-like}
use Rattle.rules.specs.Components.{same_component}
use Rattle.rules.specs.Descriptors.{same_functionality, same_mode, same_descriptor}
use Rattle.rules.specs.Rules.{SteeringRule, same_rule}
use Rattle.rules.specs.contracts.component.ComponentPartialEq.TheImpl as ComponentPartialEq
use Rattle.rules.specs.contracts.descriptor.DescriptorPartialEq.TheImpl as DescriptorPartialEq
use Rattle.rules.specs.declared.component.Component.{Component}
use Rattle.rules.specs.declared.descriptor.Descriptor.{Descriptor}
use Rattle.rules.specs.declared.descriptor.Functionality.{Functionality}
use Rattle.rules.specs.declared.descriptor.Mode.{Mode}

same_self : (x : Component) → same_component x x ≡ true
same_self x = grind (arith, nat_tests)

same_is : (x y : Component) → same_component x y ≡ true → x ≡ y
same_is x y h = grind (arith, nat_tests)

-- a component is the same as another exactly where the two are equal
pub same_component-Decides : (x y : Component) → Decides (same_component x y) (x ≡ y)
same_component-Decides x y = (same_is x y, λ e. subst (λ z. same_component x z ≡ true) e (same_self x))

same_functionality-Decides : (x y : Functionality) → Decides (same_functionality x y) (x ≡ y)
same_functionality-Decides x y = grind (arith, nat_tests)

same_mode-Decides : (x y : Mode) → Decides (same_mode x y) (x ≡ y)
same_mode-Decides x y = grind (arith, nat_tests)

pub same_descriptor-Decides : (x y : Descriptor) → Decides (same_descriptor x y) (x ≡ y)
same_descriptor-Decides x y =
    Decides-like _ (λ p. (λ i. record { functionality = p.0 i; mode = p.1 i })) (λ e. (ap (λ d. d.functionality) e, ap (λ d. d.mode) e))
    (Decides-and _ _ (same_functionality-Decides x.functionality y.functionality) (same_mode-Decides x.mode y.mode))

pub same_descriptor_equiv : IsEquivalence same_descriptor
same_descriptor_equiv = decided same_descriptor same_descriptor-Decides

pub same_component_equiv : IsEquivalence same_component
same_component_equiv = decided same_component same_component-Decides

-- rules say the same exactly where the parts of what they say are equal
pub same_rule-Decides : (x y : SteeringRule) → Decides (same_rule x y) (x ≡ y)
same_rule-Decides x y =
    Decides-like _ (λ p. (λ i. record { precedence = p.0 i; components = p.1.0 i; descriptor = p.1.1 i }))
    (λ e. (ap (λ s. s.precedence) e, (ap (λ s. s.components) e, ap (λ s. s.descriptor) e)))
    (Decides-and _ _ (Decides-eqb x.precedence y.precedence)
    (Decides-and _ _ (slice_eq-Decides same_component-Decides x.components y.components _ refl) (same_descriptor-Decides x.descriptor y.descriptor)))

pub same_rule_equiv : IsEquivalence same_rule
same_rule_equiv = decided same_rule same_rule-Decides

-- the derived `==` compares components and descriptors so
pub component_eq : (x y : Component) → ComponentPartialEq.ghosts.eq x y ≡ same_component x y
component_eq x y = grind (arith, nat_tests)

pub descriptor_eq : (x y : Descriptor) → DescriptorPartialEq.ghosts.eq x y ≡ same_descriptor x y
descriptor_eq x y = grind (arith, nat_tests)

-- `==` of components is true exactly where the two are the same
abbrev pub ComponentEqIsExact : Type 0
ComponentEqIsExact = (x y : Component) → IsTrue (ComponentPartialEq.ghosts.eq x y) ↔ (x ≡ y)

-- `==` of descriptors is true exactly where the two are the same
abbrev pub DescriptorEqIsExact : Type 0
DescriptorEqIsExact = (x y : Descriptor) → IsTrue (DescriptorPartialEq.ghosts.eq x y) ↔ (x ≡ y)

pub component_eq-Decides : (x y : Component) → Decides (ComponentPartialEq.ghosts.eq x y) (x ≡ y)
component_eq-Decides x y = grind (arith, nat_tests)

pub descriptor_eq-Decides : (x y : Descriptor) → Decides (DescriptorPartialEq.ghosts.eq x y) (x ≡ y)
descriptor_eq-Decides x y = grind (arith, nat_tests)
