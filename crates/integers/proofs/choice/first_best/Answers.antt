-- `first_best` keeps the first best of what it has seen. Assumes nothing but the laws of the order.
use Rattle.std.proofs.Common.{◌≡◌, length, arith, rules}
use Rattle.std.specs.Cmp.{IsStrictWeakOrder}
use Rattle.std.proofs.lemmas.List.MinMax.{IsStrictWeakOrder-from_at_least, IsFirstBest-none, IsFirstBest-keeps, IsFirstBest-takes}
use Rattle.integers.specs.Choice.{beats}
use Rattle.integers.proofs.choice.first_best.Given as given
use Rattle.integers.proofs.choice.first_best.Goals as goal

ranks : (g : given.Over) → IsStrictWeakOrder (beats g.T.Better.not_worse)
ranks g = IsStrictWeakOrder-from_at_least g.T.Better.not_worse g.met.T.Better.total g.met.T.Better.chain

pub loop-i-init : goal.loop-i-init
loop-i-init g c = IsFirstBest-none (ranks g) c.args.items.now

-- the two ways of the test are left to `search`
pub loop-i-preserved : goal.loop-i-preserved
loop-i-preserved g c =
    let takes = IsFirstBest-takes (ranks g) c.args.items.now c.loop-i.i c.loop-i.best c.index-items-i.result c.index-items-best.result c.loop-i.invariant c.loop-i-test.true c.index-items-i.is c.index-items-best.is in
    let keeps = IsFirstBest-keeps (ranks g) c.args.items.now c.loop-i.i c.loop-i.best c.index-items-i.result c.index-items-best.result c.loop-i.invariant c.loop-i-test.true c.index-items-i.is c.index-items-best.is in
    search (rules, takes, keeps)

pub returns : goal.returns
returns g c =
    let e : c.loop-i.i ≡ length c.args.items.now = search rules in
    record {
      within = omega arith;
      none_better = λ k d h. c.loop-i.invariant.1 k d (omega arith);
      first = c.loop-i.invariant.2;
    }
