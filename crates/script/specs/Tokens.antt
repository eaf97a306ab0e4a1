-- A line as tokens: the pieces between blanks. A double quote turns quoting on or off, and a blank within quotes
-- belongs to the piece. A quote that is never closed makes the piece run to the end of the line.
use Rattle.std.specs.Prelude.{◌≡◌, ℕ, suc, ◌+◌, ◌<◌, ◌≤◌, Bool, true, false, cond, not, ◌&&◌, ◌||◌, List, [], ◌∷◌, length, take, drop, Some, None, Option, ◌==◌}
use Rattle.std.specs.Option.{option_map}
use Rattle.script.specs.declared.tokens.Token.{Token}
use Rattle.terms.specs.Terms.{Text}
use Rattle.lines.specs.Lines.{onto}

-- a space, a tab or a carriage return
abbrev pub blank : ℕ → Bool
blank b = b == 32 || (b == 9 || b == 13)

-- whether what follows the byte is quoted
abbrev pub turned : Bool → ℕ → Bool
turned q b = cond (b == 34) (not q) q

-- whether the byte parts two pieces
abbrev pub parts : Bool → ℕ → Bool
parts q b = not q && blank b

-- a piece that goes on to here ends
abbrev pub closed : Bool → List Text → List Text
closed true ps = [] ∷ ps
closed false ps = ps

-- the pieces of what is left of a line: the first flag says whether a piece goes on here, and the second whether it is quoted
abbrev pub pieces_from : Bool → Bool → List ℕ → List Text
pieces_from inside q [] = closed inside []
pieces_from inside q (b ∷ bs) = cond (parts q b) (closed inside (pieces_from false false bs)) (onto b (pieces_from true (turned q b) bs))

-- the pieces of a line
abbrev pub pieces : List ℕ → List Text
pieces line = pieces_from false false line

-- the place of the first byte that is no blank, where the bytes stand at i and on
abbrev pub piece_start : ℕ → List ℕ → Option ℕ
piece_start i [] = None
piece_start i (b ∷ bs) = cond (blank b) (piece_start (suc i) bs) (Some i)

-- how many bytes are left of a piece that goes on here
abbrev pub piece_len : Bool → List ℕ → ℕ
piece_len q [] = 0
piece_len q (b ∷ bs) = cond (parts q b) 0 (suc (piece_len (turned q b) bs))

-- the token that starts at a byte
abbrev pub token_at : List ℕ → ℕ → Token
token_at line s = record { start = s; len = piece_len false (drop s line) }

-- the first token at or after a byte
abbrev pub first_token : List ℕ → ℕ → Option Token
first_token line from = option_map (token_at line) (piece_start from (drop from line))

-- the bytes of a token
abbrev pub read : List ℕ → Token → Text
read line t = take t.len (drop t.start line)

-- a token that is the first piece from a byte on, and after which the other pieces follow
pub record Leads (line : List ℕ) (from : ℕ) (t : Token) : Type 0 where
  pub all : pieces (drop from line) ≡ read line t ∷ pieces (drop (t.start + t.len) line)
  pub after : from ≤ t.start
  pub some : 0 < t.len
  pub within : t.start + t.len ≤ length line

-- what an answer says of the pieces from a byte on
abbrev pub First : List ℕ → ℕ → Option Token → Type 0
First line from None = pieces (drop from line) ≡ []
First line from (Some t) = Leads line from t

-- each token is the first after the one before it, from a byte on, and none follows the last
abbrev pub Chain : List ℕ → ℕ → List Token → Type 0
Chain line from [] = None ≡ first_token line from
Chain line from (t ∷ ts) = (Some t ≡ first_token line from) × Chain line (t.start + t.len) ts
