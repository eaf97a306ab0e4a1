-- The first piece of a line, and where it stands.
use Rattle.std.proofs.Common.{◌≡◌, ℕ, zero, suc, ◌+◌, ◌-◌, ◌<◌, ◌≤◌, Bool, true, false, cond, List, [], ◌∷◌, ◌++◌, map, length, take, drop, Some, None, Option, sym, refl, ap, ◌∙◌, subst, append_assoc, append-nil, add-one, arith}
use Rattle.std.specs.Option.{option_map}
use Rattle.std.specs.List.{AllWithin, HoldsAt}
use Rattle.std.proofs.lemmas.List.{drop-drop, length-drop, take_rest, map_push}
use Rattle.std.proofs.lemmas.Bool.Decides.{nat_tests}
use Rattle.script.specs.declared.tokens.Token.{Token}
use Rattle.script.specs.Tokens.{blank, turned, pieces_from, pieces, piece_start, piece_len, token_at, first_token, read, Leads, First, Chain}

-- ---- a piece that goes on

goes : (q : Bool) (bs : List ℕ) → pieces_from true q bs ≡ take (piece_len q bs) bs ∷ pieces (drop (piece_len q bs) bs)
goes q [] = refl
goes true (b ∷ bs) = grind (arith, nat_tests, goes (turned true b) bs)
goes false (b ∷ bs) = grind (arith, nat_tests, goes (turned false b) bs)

short : (q : Bool) (bs : List ℕ) → piece_len q bs ≤ length bs
short q [] = omega arith
short q (b ∷ bs) = grind (arith, nat_tests, short (turned q b) bs)

-- ---- the first piece

begins : (b : ℕ) (bs : List ℕ) → blank b ≡ false → pieces (b ∷ bs) ≡ take (piece_len false (b ∷ bs)) (b ∷ bs) ∷ pieces (drop (piece_len false (b ∷ bs)) (b ∷ bs))
begins b bs e = let h : pieces (b ∷ bs) ≡ pieces_from true false (b ∷ bs) = rw e in h ∙ goes false (b ∷ bs)

-- what holds of all that is left holds in the line
moved : (line : List ℕ) (i n : ℕ) (xs : List ℕ) → drop i line ≡ xs → pieces xs ≡ take n xs ∷ pieces (drop n xs) → pieces (drop i line) ≡ take n (drop i line) ∷ pieces (drop (i + n) line)
moved line i n xs d h =
    let P : List ℕ → Type 0 = λ ys. pieces ys ≡ take n ys ∷ pieces (drop n ys) in
    rw (← drop-drop n i line) (subst P (sym d) h)

leads_by : (line : List ℕ) (i n b : ℕ) (bs : List ℕ) → drop i line ≡ b ∷ bs → blank b ≡ false → n ≡ piece_len false (b ∷ bs) → Leads line i (record { start = i; len = n })
leads_by line i n b bs d e p =
    let P : ℕ → Type 0 = λ m. pieces (b ∷ bs) ≡ take m (b ∷ bs) ∷ pieces (drop m (b ∷ bs)) in
    let long = simp length-drop at (ap length d) in
    record { all = moved line i n (b ∷ bs) d (subst P (sym p) (begins b bs e)); after = omega arith; some = grind (arith, p, e); within = omega (arith, long, short false (b ∷ bs)) }

leads : (line : List ℕ) (i b : ℕ) (bs : List ℕ) → drop i line ≡ b ∷ bs → blank b ≡ false → Leads line i (token_at line i)
leads line i b bs d e = leads_by line i _ b bs d e (ap (piece_len false) d)

-- ---- past the blanks before it

onward : (line : List ℕ) (i b : ℕ) (bs : List ℕ) → drop i line ≡ b ∷ bs → drop (suc i) line ≡ bs
onward line i b bs d = rw (← add-one i, ← drop-drop 1 i line) (ap (drop 1) d)

back : (line : List ℕ) (i b : ℕ) (bs : List ℕ) → drop i line ≡ b ∷ bs → blank b ≡ true → pieces (drop i line) ≡ pieces (drop (suc i) line)
back line i b bs d e =
    let skips : pieces (b ∷ bs) ≡ pieces bs = rw e in
    ap pieces d ∙ skips ∙ ap pieces (sym (onward line i b bs d))

past : (line : List ℕ) (i : ℕ) (r : Option Token) → pieces (drop i line) ≡ pieces (drop (suc i) line) → First line (suc i) r → First line i r
past line i None e h = e ∙ h
past line i (Some t) e h = record { all = e ∙ h.all; after = omega (arith, h.after); some = h.some; within = h.within }

first_by : (line : List ℕ) (i b : ℕ) (bs : List ℕ) (t : Bool) → blank b ≡ t → drop i line ≡ b ∷ bs → First line (suc i) (option_map (token_at line) (piece_start (suc i) bs)) → First line i (option_map (token_at line) (cond t (piece_start (suc i) bs) (Some i)))
first_by line i b bs true e d h = past line i _ (back line i b bs d e) h
first_by line i b bs false e d h = leads line i b bs d e

first_from : (line : List ℕ) (xs : List ℕ) (i : ℕ) → drop i line ≡ xs → First line i (option_map (token_at line) (piece_start i xs))
first_from line [] i d = ap pieces d
first_from line (b ∷ bs) i d = first_by line i b bs (blank b) refl d (first_from line bs (suc i) (onward line i b bs d))

-- the law of the first token, of an answer that is equal to it
pub first_of : (line : List ℕ) (from : ℕ) (r : Option Token) → r ≡ first_token line from → First line from r
first_of line from r e = subst (First line from) (sym e) (first_from line (drop from line) from refl)

-- ---- the searches, a byte on

pub starts_at : (xs : List ℕ) (from i : ℕ) → (i < length xs) × HoldsAt (λ b. blank b ≡ false) xs i × AllWithin (λ b. blank b ≡ true) xs 0 i → piece_start from xs ≡ Some (from + i)
starts_at [] from i h = absurd (omega (arith, h.0))
starts_at (x ∷ xs) from zero h = grind (arith, h.1 0)
starts_at (x ∷ xs) from (suc i) h =
    let r = starts_at xs (suc from) i (omega (arith, h.0), h.1, λ k d m n. h.2 (suc k) d (omega arith) (omega arith)) in
    grind (arith, h.2 0 0 (omega arith) (omega arith), r)

pub starts_nowhere : (xs : List ℕ) (from : ℕ) → AllWithin (λ b. blank b ≡ true) xs 0 (length xs) → piece_start from xs ≡ None
starts_nowhere [] from h = refl
starts_nowhere (x ∷ xs) from h =
    let r = starts_nowhere xs (suc from) (λ k d m n. h (suc k) d (omega arith) (omega arith)) in
    grind (arith, h 0 0 (omega arith) (omega arith), r)

-- ---- the token that the searches find

pub found : (line : List ℕ) (from s n : ℕ) → Some s ≡ piece_start from (drop from line) → n ≡ piece_len false (take (length line - s) (drop s line)) → Some (record { start = s; len = n }) ≡ first_token line from
found line from s n e h =
    let here : n ≡ piece_len false (drop s line) = h ∙ ap (piece_len false) (take_rest line s) in
    ap (λ (m : ℕ). Some (record { start = s; len = m })) here ∙ ap (option_map (token_at line)) e

-- ---- token after token

-- the tokens up to `from` go before whatever follows them there, and their pieces before those that are left
abbrev pub SoFar : List ℕ → List Token → ℕ → Type 0
SoFar line ts from = ((us : List Token) → Chain line from us → Chain line 0 (ts ++ us)) × (map (read line) ts ++ pieces (drop from line) ≡ pieces line)

pub one_more : (line : List ℕ) (from : ℕ) (ts us : List Token) (t : Token) → us ≡ ts ++ t ∷ [] → SoFar line ts from → Some t ≡ first_token line from → Leads line from t → SoFar line us (t.start + t.len)
one_more line from ts us t e h f l = (λ vs c. rw (e, append_assoc) (h.0 (t ∷ vs) (f, c)), simp (e, map_push, append_assoc) (rw l.all at h.1))

pub chained : (line : List ℕ) (from : ℕ) (ts : List Token) → SoFar line ts from → None ≡ first_token line from → Chain line 0 ts
chained line from ts h f = rw append-nil at (h.0 [] f)

pub all_read : (line : List ℕ) (from : ℕ) (ts : List Token) → SoFar line ts from → pieces (drop from line) ≡ [] → map (read line) ts ≡ pieces line
all_read line from ts h e = simp (e, append-nil) at h.1
