-- Laws of pairs whose keys ascend, over any list of them.
use Rattle.std.proofs.Common.{◌≡◌, ℕ, zero, suc, ◌+◌, ◌<◌, ◌≤◌, true, false, ◌⊎◌, List, [], ◌∷◌, length, Err, Ordering, Less, Equal, Greater, refl, ap, ◌∙◌, inl, inr, sym, true≢false, arith, rules}
use Rattle.std.specs.Ordering.{is_eq, is_lt, ordering_reverse}
use Rattle.std.proofs.lemmas.Bool.{and_parts, and_from, or_parts, or_left, or_right}
use Rattle.terms.specs.Terms.{Text}
use Rattle.terms.specs.Orders.{text_order}
use Rattle.terms.specs.Bank.{Child}
use Rattle.terms.specs.declared.refusal.Refusal.TheVariants as refusal
use Rattle.terms.proofs.Lawful.{to_total}
use Rattle.terms.proofs.LeafLaws.{text_laws}
use Rattle.model.specs.Checks.{key_under, keys_rise}
use Rattle.model.specs.Costs.{keys_bytes}
use Rattle.model.specs.Pairs.{has_key, put_before, with_pair, Put}
use Rattle.pairs.specs.Entries.{key_at}

-- ---- members of pairs whose keys ascend

pub is_less : (r : Ordering) → is_lt r ≡ true → r ≡ Less
is_less Less e = refl
is_less Equal e = absurd (true≢false (sym e))
is_less Greater e = absurd (true≢false (sym e))

-- the key of the first is below the key of each that follows
under_at : (c : Child) (cs : List Child) (j : ℕ) → keys_rise (c ∷ cs) ≡ true → j < length cs → text_order c.0 (key_at cs j) ≡ Less
under_at c [] j h l = absurd (omega arith)
under_at c (d ∷ ds) zero h l = is_less _ (and_parts _ _ h).0
under_at c (d ∷ ds) (suc j) h l =
    let p = and_parts _ _ h in
    (to_total text_laws).trans c.0 d.0 (key_at ds j) (is_less _ p.0) (under_at d ds j p.1 (omega arith))

-- an earlier key is below a later one
pub rises_at : (ps : List Child) (i j : ℕ) → keys_rise ps ≡ true → i < j → j < length ps → text_order (key_at ps i) (key_at ps j) ≡ Less
rises_at [] i j h l m = absurd (omega arith)
rises_at (c ∷ cs) i zero h l m = absurd (omega arith)
rises_at (c ∷ cs) zero (suc j) h l m = under_at c cs j h (omega arith)
rises_at (c ∷ cs) (suc i) (suc j) h l m = rises_at cs i j (and_parts _ _ h).1 (omega arith) (omega arith)

-- a key that compares equal to that of a pair stands
pub found : (k : Text) (ps : List Child) (m : ℕ) → m < length ps → text_order k (key_at ps m) ≡ Equal → has_key k ps ≡ true
found k [] m l e = absurd (omega arith)
found k (c ∷ cs) zero l e = or_left _ _ (ap is_eq e)
found k (c ∷ cs) (suc m) l e = or_right _ _ (found k cs m (omega arith) e)

-- ---- one more pair

under_by : (k : Text) (p c : Child) (cs placed : List Child) (r : Ordering) → text_order k p.0 ≡ Less → key_under k (c ∷ cs) ≡ true → key_under k (put_before r p c cs placed) ≡ true
under_by k p c cs placed Less e h = ap is_lt e
under_by k p c cs placed Equal e h = ap is_lt e
under_by k p c cs placed Greater e h = h

-- a key that is below all stays below them with a pair whose key is above it
under_with : (k : Text) (p : Child) (cs : List Child) → text_order k p.0 ≡ Less → key_under k cs ≡ true → key_under k (with_pair p cs) ≡ true
under_with k p [] e h = ap is_lt e
under_with k p (c ∷ cs) e h = under_by k p c cs (with_pair p cs) (text_order p.0 c.0) e h

rises_by : (p c : Child) (cs : List Child) (r : Ordering) → text_order p.0 c.0 ≡ r → is_eq r ≡ false → keys_rise (c ∷ cs) ≡ true → keys_rise (with_pair p cs) ≡ true → keys_rise (put_before r p c cs (with_pair p cs)) ≡ true
rises_by p c cs Less e f h t = and_from _ _ (ap is_lt e) h
rises_by p c cs Equal e f h t = absurd (true≢false f)
rises_by p c cs Greater e f h t = and_from _ _ (under_with c.0 p cs (text_laws.swap p.0 c.0 ∙ ap ordering_reverse e) (and_parts _ _ h).0) t

-- keys that ascend still do with a pair whose key is new
pub rises_with : (p : Child) (ps : List Child) → has_key p.0 ps ≡ false → keys_rise ps ≡ true → keys_rise (with_pair p ps) ≡ true
rises_with p [] f h = refl
rises_with p (c ∷ cs) f h =
    let g = or_parts _ _ f in
    rises_by p c cs (text_order p.0 c.0) refl g.0 h (rises_with p cs g.1 (and_parts _ _ h).1)

-- a pair that passes all tests but that of room: Room is its refusal, and the pairs stay
pub put_full : (ps : List Child) (k : Text) (n : ℕ) (node : n < 512) (short : length k ≤ 512) (new : has_key k ps ≡ false) → (64 ≤ length ps) ⊎ (2048 < keys_bytes ps + length k) → Put ps k n (Err refusal.Room) ps
put_full ps k n node short new (inl h) = search rules
put_full ps k n node short new (inr h) = search rules
