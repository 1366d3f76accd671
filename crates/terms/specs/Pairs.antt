-- What a pair holds for an access, and a pair with that one thing changed.
use Rattle.terms.specs.declared.access.Access.{Access}
use Rattle.terms.specs.declared.access.Access.TheVariants.{ThreeGpp, NonThreeGpp}
use Rattle.terms.specs.declared.pair.Pair.{Pair}

abbrev pub at : {T : Type 0} → Pair T → Access → T
at p ThreeGpp = p.first
at p NonThreeGpp = p.second

abbrev pub put : {T : Type 0} → Pair T → Access → T → Pair T
put p ThreeGpp x = record { first = x; second = p.second }
put p NonThreeGpp x = record { first = p.first; second = x }
