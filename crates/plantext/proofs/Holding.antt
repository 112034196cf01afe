-- One more number held. Assumes nothing.
use Rattle.std.proofs.Common.{◌≡◌, ◌+◌, ◌-◌, ◌<◌, drop, set, replicate, ℤ, pos, sym, ap, ◌∙◌, arith}
use Rattle.std.proofs.lemmas.List.{length-set, drop-set-lt, drop-drop, drop-replicate}
use Rattle.plantext.specs.Held.{Held}
use Rattle.plantext.specs.declared.numbers.Numbers.TheInside.{Inside}

pub held_more : (a : Inside) (z : ℤ) → Held a → a.len < 16 → Held (record { values = set a.values a.len z; len = a.len + 1 })
held_more a z h room = record {
  room = omega arith;
  size = length-set a.values a.len z ∙ h.size;
  zeros = drop-set-lt (a.len + 1) a.values a.len z (omega arith) ∙ sym (drop-drop 1 a.len a.values) ∙ ap (drop 1) h.zeros ∙ drop-replicate 1 (16 - a.len) (pos 0) ∙ ap (λ n. replicate n (pos 0)) (let n : 16 - a.len - 1 ≡ 16 - (a.len + 1) = omega arith in n);
}
