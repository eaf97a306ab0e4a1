-- A loop that writes a part for each member of a list.
use Rattle.std.proofs.Common.{◌≡◌, ℕ, ◌+◌, ◌<◌, List, [], ◌∷◌, ◌++◌, map, length, get_or, take, sym, ap, ◌∙◌}
use Rattle.std.specs.List.{flat_map}
use Rattle.std.proofs.lemmas.List.{flat_map_more, map_more, append_assoc}

module _ {X Y : Type 0} (g : X → Y) (f : Y → List ℕ) (bs : List ℕ) (xs : List X) where
  pub wrote_more : (i : ℕ) (x : X) (out out' s t : List ℕ) → i < length xs → x ≡ get_or xs i x → out ≡ bs ++ flat_map f (map g (take i xs)) → out' ≡ out ++ s → s ≡ t → t ≡ f (g x) → out' ≡ bs ++ flat_map f (map g (take (i + 1) xs))
  wrote_more i x out out' s t l h e u v w =
      u ∙ (λ j. e j ++ (v ∙ w) j)
      ∙ flat_map_more f bs (map g (take i xs)) (g x)
      ∙ ap (λ ys. bs ++ flat_map f ys) (ap (λ y. map g (take i xs) ++ g y ∷ []) h ∙ sym (map_more g xs i x l))

-- two parts written one after the other
pub wrote_both : (out mid out' a b s t : List ℕ) → mid ≡ out ++ a → out' ≡ mid ++ b → a ≡ s → b ≡ t → out' ≡ out ++ (s ++ t)
wrote_both out mid out' a b s t p q e f = q ∙ (λ j. (p ∙ ap (λ (u : List ℕ). out ++ u) e) j ++ f j) ∙ append_assoc out s t

-- three parts written into nothing
pub wrote_three : (out out₁ out₂ out₃ a b s t : List ℕ) → out ≡ [] → out₁ ≡ out ++ a → out₂ ≡ out₁ ++ b → out₃ ≡ out₂ ++ s → s ≡ t → out₃ ≡ a ++ (b ++ t)
wrote_three out out₁ out₂ out₃ a b s t n p q r e =
    r ∙ (λ j. (q ∙ ap (λ (u : List ℕ). u ++ b) (p ∙ ap (λ (u : List ℕ). u ++ a) n)) j ++ e j) ∙ append_assoc a b t
