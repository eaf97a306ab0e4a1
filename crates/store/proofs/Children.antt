-- Children as a loop goes through them.
use Rattle.std.proofs.Common.{◌≡◌, ℕ, zero, suc, ◌<◌, true, eqb, leb, List, [], ◌∷◌, length, get_or, Some, None, Option, Bor, sym, refl, ap, subst, ◌∙◌, arith, ltb-true, rules}
use borrow.Author.Tests.{lt-leb}
use Rattle.std.specs.Option.{unwrap_or}
use Rattle.std.proofs.lemmas.Bool.{and_parts}
use Rattle.terms.specs.Bank.{Child}
use Rattle.model.specs.Checks.{every, there, keyless, key_short, keys_rise}
use Rattle.model.specs.Costs.{keys_bytes}
use Rattle.model.specs.Nodes.{numbered}
use Rattle.pairs.specs.Entries.{seen}
use Rattle.store.specs.Branches.{branches_of, child_now, Drafted}
use Rattle.store.specs.declared.branches.Branches.{Branches}
use Rattle.store.specs.declared.branches.Branches.TheVariants as branches

pub length_numbered : (is : List ℕ) → length (numbered is) ≡ length is
length_numbered [] = refl
length_numbered (i ∷ is) = ap suc (length_numbered is)

pub numbered_at : (is : List ℕ) (i : ℕ) → get_or (numbered is) i ([], 0) ≡ ([], get_or is i 0)
numbered_at [] i = refl
numbered_at (j ∷ is) zero = refl
numbered_at (j ∷ is) (suc i) = numbered_at is i

pub keyless_bytes : (is : List ℕ) → keys_bytes (numbered is) ≡ 0
keyless_bytes [] = refl
keyless_bytes (i ∷ is) = omega (arith, keyless_bytes is)

-- a pair that is read, or another in its place
pub seen_or : (r : Option (Bor (List ℕ) × ℕ)) (d : Bor (List ℕ) × ℕ) → child_now (unwrap_or r d) ≡ unwrap_or (seen r) (child_now d)
seen_or None d = refl
seen_or (Some x) d = refl

-- where the children that are left are nodes, the next is one
pub next_there : (n : ℕ) (cs ds : List Child) (c : Child) → cs ≡ c ∷ ds → every (there n) cs ≡ true → (c.1 < n) × (every (there n) ds ≡ true)
next_there n cs ds c e h =
    let p = and_parts (there n c) (every (there n) ds) (sym (ap (every (there n)) e) ∙ h) in
    (ltb-true c.1 n p.0, p.1)

-- ---- keys of children

-- no child has a key where all keys take no bytes
pub keyless_free : (cs : List Child) → eqb (keys_bytes cs) 0 ≡ every keyless cs
keyless_free [] = refl
keyless_free (c ∷ cs) = let h = keyless_free cs in search rules

-- two empty keys do not ascend
rise_numbered : (is : List ℕ) → keys_rise (numbered is) ≡ leb (length is) 1
rise_numbered [] = refl
rise_numbered (i ∷ []) = refl
rise_numbered (i ∷ j ∷ is) = sym (lt-leb (length (i ∷ j ∷ is)) 1 (omega arith))

pub short_numbered : (is : List ℕ) → every key_short (numbered is) ≡ true
short_numbered [] = refl
short_numbered (i ∷ is) = short_numbered is

-- no key is too long
pub short_branches : (b : Branches) → Drafted b → every key_short (branches_of b) ≡ true
short_branches (branches.Plain is) h = short_numbered is.now
short_branches (branches.Keyed ps) h = h.short

-- the keys of pairs ascend
pub rise_keyed : (b : Branches) (ps : Bor (List Child)) → b ≡ branches.Keyed ps → Drafted b → true ≡ keys_rise (branches_of b)
rise_keyed b ps e h = let d : Drafted (branches.Keyed ps) = subst Drafted e h in sym (ap (λ c. keys_rise (branches_of c)) e ∙ d.rises)

-- without keys, one child at most
pub rise_plain : (b : Branches) (is : Bor (List ℕ)) (n : ℕ) → n ≡ length (branches_of b) → b ≡ branches.Plain is → leb n 1 ≡ keys_rise (branches_of b)
rise_plain b is n k e =
    ap (λ i. leb i 1) (k ∙ ap (λ c. length (branches_of c)) e ∙ length_numbered is.now) ∙ sym (rise_numbered is.now) ∙ ap (λ c. keys_rise (branches_of c)) (sym e)
