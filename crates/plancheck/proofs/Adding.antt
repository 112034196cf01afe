-- How a rule's numbers reach the plan, and which complaint stands. Assumes nothing.
use Rattle.std.proofs.Common.{◌≡◌, Some, None, Ok, Err, Option, sym, ap}
use Rattle.engine.specs.Interface.{Does}
use Rattle.engine.specs.declared.refusal.Refusal.{Refusal}

-- what a reply tells
pub done : {U V : Type 0} (o : Option Refusal) (next v : V) (u : U) (w : V) → Does o next v (Ok u) w → w ≡ next
done None next v u w d = d
done (Some e) next v u w d = absurd d

pub refused_so : {V : Type 0} (o : Option Refusal) (next v : V) (e : Refusal) (w : V) → Does {U = Unit {0}} o next v (Err e) w → (o ≡ Some e) × (w ≡ v)
refused_so None next v e w d = absurd d
refused_so (Some x) next v e w d = (ap Some (sym d.0), d.1)
