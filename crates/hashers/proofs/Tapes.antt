-- What a tape keeps of one byte more.
use Rattle.std.proofs.Common.{◌≡◌, ℕ, ◌+◌, ◌<◌, ◌≤◌, List, [], ◌∷◌, ◌++◌, length, take, set, sym, ◌∙◌, arith}
use Rattle.std.proofs.lemmas.List.{take_more_set, take_all, length-take-le, length_push, take_at}

-- while there is room, the byte stands after the others
pub front_more : (xs : List ℕ) (n b : ℕ) → length xs ≡ 256 → n < 256 → take (n + 1) (set xs n b) ≡ take 256 (take n xs ++ (b ∷ []))
front_more xs n b e l =
    let m : n < length xs = omega arith in
    let o : n ≤ length xs = omega arith in
    let few : length (take n xs ++ (b ∷ [])) ≤ 256 = omega (arith, length_push (take n xs) b, length-take-le n xs o) in
    take_more_set xs n b m ∙ sym (take_all 256 (take n xs ++ (b ∷ [])) few)

-- a full tape stays as it is
pub front_full : (xs : List ℕ) (n b : ℕ) → length xs ≡ 256 → n ≤ 256 → 256 ≤ n → take n xs ≡ take 256 (take n xs ++ (b ∷ []))
front_full xs n b e l m = let o : length (take n xs) ≡ 256 = length-take-le n xs (omega arith) ∙ omega arith in sym (take_at (take n xs) (b ∷ []) 256 o)
