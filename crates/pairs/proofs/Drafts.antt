-- A pair put to a draft.
use Rattle.std.proofs.Common.{◌≡◌, ℕ, ◌+◌, ◌<◌, ◌≤◌, true, false, List, length, Ok, refl, arith, rules}
use Rattle.std.specs.List.{insert}
use Rattle.std.proofs.lemmas.Bool.{lt-ltb, le-leb}
use Rattle.std.proofs.lemmas.List.Edits.{length-insert}
use Rattle.std.proofs.lemmas.List.Recursion.{is_sum_by}
use Rattle.std.proofs.lemmas.List.Sums.{sum_by-insert}
use Rattle.terms.specs.Terms.{Text}
use Rattle.terms.specs.Bank.{Child}
use Rattle.model.specs.Checks.{there, key_short, keys_rise}
use Rattle.model.specs.Costs.{keys_bytes}
use Rattle.model.specs.Pairs.{has_key, with_pair, Put}
use Rattle.pairs.specs.Entries.{Draft}
use Rattle.pairs.proofs.Inserts.{every_inserted}

pub bytes_inserted : (ps : List Child) (i : ℕ) (p : Child) → keys_bytes (insert ps i p) ≡ keys_bytes ps + length p.0
bytes_inserted ps i p =
    let sum = is_sum_by keys_bytes (λ c. length c.0) refl (λ _ _. refl) in
    omega (arith, sum ps, sum (insert ps i p), sum_by-insert (λ (c : Child). length c.0) ps i p)

-- a pair with a node, a key and a size that pass
module _ (ps : List Child) (k : Text) (n : ℕ) (node : n < 512) (short : length k ≤ 512) (one : length ps < 64) (room : keys_bytes ps + length k ≤ 2048) where
  pub draft_put : (i : ℕ) → i ≤ length ps → keys_rise (insert ps i (k, n)) ≡ true → Draft ps → Draft (insert ps i (k, n))
  draft_put i h rises d = record {
    few = omega (arith, length-insert ps i (k, n) h);
    bounded = omega (arith, bytes_inserted ps i (k, n));
    rises = rises;
    short = every_inserted key_short ps i (k, n) (le-leb (length k) 512 short) d.short;
    known = every_inserted (there 512) ps i (k, n) (lt-ltb n 512 node) d.known;
  }

  pub put_done : has_key k ps ≡ false → (ps' : List Child) → ps' ≡ with_pair (k, n) ps → Put ps k n (Ok tt) ps'
  put_done new ps' e = search rules
