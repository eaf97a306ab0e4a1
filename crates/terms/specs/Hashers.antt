-- Hashers: a state, and a next state for each byte. The two that come with the library.
use Rattle.std.specs.Prelude.{ℕ, ◌+◌, ◌*◌, ◌%◌, ◌^◌, List, [], ◌∷◌, ◌++◌, take, bit_xor}

-- the state after a list of bytes
abbrev pub fed : {S : Type 0} → (S → ℕ → S) → S → List ℕ → S
fed next s [] = s
fed next s (b ∷ bs) = fed next (next s b) bs

-- FNV-1a of 64 bits
abbrev pub fnv_start : ℕ
fnv_start = 14695981039346656037

-- the byte joined by exclusive or, times the factor, without what passes 64 bits
abbrev pub fnv_next : ℕ → ℕ → ℕ
fnv_next s b = bit_xor s b * 1099511628211 % 2 ^ 64

-- the digest of some bytes
abbrev pub fnv : List ℕ → ℕ
fnv bs = fed fnv_next fnv_start bs

-- a tape: the first 256 bytes, and how many were fed, which wraps at 64 bits
pub record TapeS : Type 0 where
  pub front : List ℕ
  pub count : ℕ

-- a tape that was fed nothing
abbrev pub tape_start : TapeS
tape_start = record { front = []; count = 0 }

-- one byte more: kept while there is room, counted always
abbrev pub tape_next : TapeS → ℕ → TapeS
tape_next s b = record { front = take 256 (s.front ++ (b ∷ [])); count = (s.count + 1) % 2 ^ 64 }
