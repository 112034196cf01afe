-- Bytes at the end of a line, one after another. Assumes nothing.
use Rattle.std.proofs.Common.{◌≡◌, ℕ, ◌+◌, ◌≤◌, List, [], ◌++◌, length, sym, ap, ◌∙◌, subst, append_assoc, append-nil, arith, length-append}
use Rattle.protocol.specs.Held.{held, Appends, AppendsFew, Holds}
use Rattle.protocol.specs.declared.line.Line.{Line}

pub appends_then : {u v w : Line} {xs ys : List ℕ} → Appends u xs v → Appends v ys w → Appends u (xs ++ ys) w
appends_then {u} {v} {w} {xs} {ys} p q = record {
  bytes = q.bytes ∙ ap (λ bs. bs ++ ys) p.bytes ∙ append_assoc (held u) xs ys;
  len = simp length-append (omega (arith, p.len, q.len));
}

-- nothing is appended
pub appends_none : (u : Line) → Appends u [] u
appends_none u = record { bytes = sym (append-nil (held u)); len = omega arith }

-- bytes after a line that is v by another name
pub appends_on : {u v w : Line} {xs ys : List ℕ} (t : Line) → Appends u xs v → t ≡ v → Appends t ys w → Appends u (xs ++ ys) w
appends_on {u} {v} {w} {xs} {ys} t p is q = appends_then p (subst (λ (x : Line). Appends x ys w) is q)

-- the same bytes, written in another way
pub appends_as : {u v : Line} {xs ys : List ℕ} → Appends u xs v → xs ≡ ys → Appends u ys v
appends_as {u} {v} p is = subst (λ (bs : List ℕ). Appends u bs v) is p

-- ---- the same with a bound on the bytes
pub few_then : {u v w : Line} {xs ys : List ℕ} (m n : ℕ) → AppendsFew u xs m v → AppendsFew v ys n w → AppendsFew u (xs ++ ys) (m + n) w
few_then m n p q = record { appends = appends_then p.appends q.appends; few = simp length-append (omega (arith, p.few, q.few)) }

-- the same bytes and line, written in another way, with a bound that is no lower
pub few_as : {u v w : Line} {xs ys : List ℕ} (m n : ℕ) → AppendsFew u xs m v → xs ≡ ys → m ≤ n → w ≡ v → AppendsFew u ys n w
few_as {u} {v} {w} {xs} {ys} m n p is le end = record {
  appends = subst (λ (x : Line). Appends u ys x) (sym end) (appends_as p.appends is);
  few = subst (λ (bs : List ℕ). length bs ≤ n) is (omega (arith, p.few));
}

-- ---- what a line holds, and bytes after it
pub holds_then : {u v : Line} {xs ys : List ℕ} (m n : ℕ) → Holds xs m u → AppendsFew u ys n v → Holds (xs ++ ys) (m + n) v
holds_then {u} {v} {xs} {ys} m n p q = record {
  bytes = q.appends.bytes ∙ ap (λ bs. bs ++ ys) p.bytes;
  few = omega (arith, p.few, q.few, q.appends.len);
}

-- the same bytes, written in another way, with a bound that is no lower
pub holds_as : {u : Line} {xs ys : List ℕ} (m n : ℕ) → Holds xs m u → xs ≡ ys → m ≤ n → Holds ys n u
holds_as m n p is le = record { bytes = p.bytes ∙ is; few = omega (arith, p.few) }

pub few_from : {u v : Line} {xs : List ℕ} (n : ℕ) → Appends u xs v → length xs ≤ n → AppendsFew u xs n v
few_from n p le = record { appends = p; few = le }
