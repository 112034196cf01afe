use Rattle.std.proofs.Common.{◌<◌, take, Some, sym, ap, ◌∙◌, arith}
use Rattle.std.proofs.lemmas.List.{get_or-take, length-take}
use Rattle.elimination.specs.Limiting.{limit_of}
use Rattle.elimination.proofs.Bested.{one_best}
use Rattle.elimination.proofs.found.Found.best.Goals as goal

pub returns : goal.returns
returns g c =
    let m = g.met.S.Side in
    let s = c.args.self.now in
    let i = c.in_ok-i.i in
    let x = c.index-self-i.result in
    let h : i < s.count = omega (arith, c.in_ok-i.ensures.within, length-take s.count s.limits.now) in
    ap (λ b. Some (limit_of b.limit)) (sym (get_or-take s.count s.limits.now i x h))
    ∙ one_best (λ b. limit_of b.limit) g.S.Side.tighter (λ x y. m.total x.limit y.limit) (λ x y z. m.chain x.limit y.limit z.limit) (take s.count s.limits.now) i x c.in_ok-i.ensures
