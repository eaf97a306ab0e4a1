-- Prefix codes, and how they are put together: no code of a value begins that of another.
use Rattle.std.proofs.Common.{◌≡◌, ℕ, zero, suc, ◌*◌, ◌/◌, ◌%◌, ◌^◌, ◌<◌, ◌⊎◌, List, [], ◌∷◌, ◌++◌, length, IfSome, Some, None, Option, sym, refl, ap, ◌∙◌, inl, inr, append_assoc, pow-suc, take, drop, arith}
use Rattle.std.proofs.lemmas.List.{take_at, drop_at}
use Rattle.terms.specs.Laws.{Apart, Injective}
use Rattle.terms.specs.Formed.{All}
use Rattle.terms.specs.Feed.{bytes, each, feed_list, feed_text, feed_option}

-- f is a prefix code of the values of which P holds
pub record Code {A : Type 0} (P : A → Type 0) (f : A → List ℕ) : Type 0 where
  pub reads : Apart P f

-- the same of values that stand at one place among several
pub record Placed {A : Type 0} (place : A → ℕ) (P : A → Type 0) (f : A → List ℕ) : Type 0 where
  pub reads : (x y : A) → place x ≡ place y → P x → P y → (r s : List ℕ) → f x ++ r ≡ f y ++ s → (x ≡ y) × (r ≡ s)

-- ---- lists alone

-- two lists that are equal begin alike, and go on alike
pub head_same : {A : Type 0} (x y : A) (r s : List A) → x ∷ r ≡ y ∷ s → x ≡ y
head_same x y r s e = cc

pub tail_same : {A : Type 0} (x y : A) (r s : List A) → x ∷ r ≡ y ∷ s → r ≡ s
tail_same x y r s e = cc

-- a part in front is read first
pub regroup : (a b r a' b' s : List ℕ) → (a ++ b) ++ r ≡ (a' ++ b') ++ s → a ++ (b ++ r) ≡ a' ++ (b' ++ s)
regroup a b r a' b' s e = simp append_assoc at e

pub injective : {A : Type 0} {P : A → Type 0} {f : A → List ℕ} → Code P f → Injective P f
injective c x y p q e = (c.reads x y p q [] [] (ap (λ l. l ++ []) e)).0

-- ---- numbers

pub byte : Code (λ (n : ℕ). Unit {0}) (λ n. n ∷ [])
byte = record { reads = λ x y p q r s e. (cc, cc) }

bytes_reads : (k : ℕ) (x y : ℕ) → x < 256 ^ k → y < 256 ^ k → (r s : List ℕ) → bytes k x ++ r ≡ bytes k y ++ s → (x ≡ y) × (r ≡ s)
bytes_reads zero x y p q r s e = (omega arith, e)
bytes_reads (suc k) x y p q r s e =
    let h : x % 256 ≡ y % 256 = cc in
    let n : 256 ^ suc k ≡ 256 ^ k * 256 = pow-suc 256 k in
    let g = bytes_reads k (x / 256) (y / 256) (omega arith) (omega arith) r s (cc) in
    (omega arith, g.1)

pub words : (k : ℕ) → Code (λ n. n < 256 ^ k) (bytes k)
words k = record { reads = bytes_reads k }

-- ---- pairs and lists

module _ {A B : Type 0} {P : A → Type 0} {Q : B → Type 0} {f : A → List ℕ} {g : B → List ℕ} (c : Code P f) (d : Code Q g) where
  pub pair_code : Code (λ (x : A × B). P x.0 × Q x.1) (λ x. f x.0 ++ g x.1)
  pair_code = record {
    reads = λ x y p q r s e.
        let h = c.reads x.0 y.0 p.0 q.0 _ _ (simp append_assoc at e) in
        let k = d.reads x.1 y.1 p.1 q.1 r s h.1 in
        (λ i. (h.0 i, k.0 i), k.1);
  }

module _ {A : Type 0} {P : A → Type 0} {f : A → List ℕ} (c : Code P f) where
  each_reads : (x y : List A) → length x ≡ length y → All P x → All P y → (r s : List ℕ) → each f x ++ r ≡ each f y ++ s → (x ≡ y) × (r ≡ s)
  each_reads [] [] n p q r s e = (refl, e)
  each_reads [] (y ∷ ys) n p q r s e = absurd (omega arith)
  each_reads (x ∷ xs) [] n p q r s e = absurd (omega arith)
  each_reads (x ∷ xs) (y ∷ ys) n p q r s e =
      let h = c.reads x y p.0 q.0 _ _ (simp append_assoc at e) in
      let g = each_reads xs ys (omega arith) p.1 q.1 r s h.1 in
      (λ i. h.0 i ∷ g.0 i, g.1)

  pub list_code : Code (λ (l : List A). (length l < 256 ^ 8) × All P l) (feed_list f)
  list_code = record {
    reads = λ x y p q r s e.
        let h = (words 8).reads (length x) (length y) p.0 q.0 _ _ (simp append_assoc at e) in
        each_reads x y h.0 p.1 q.1 r s h.1;
  }

pub text_code : Code (λ (t : List ℕ). length t < 256 ^ 8) feed_text
text_code = record {
  reads = λ x y p q r s e.
      let h = (words 8).reads (length x) (length y) p q _ _ (simp append_assoc at e) in
      let n = sym h.0 in
      (sym (take_at x r (length x) refl) ∙ ap (take (length x)) h.1 ∙ take_at y s (length x) n, sym (drop_at x r (length x) refl) ∙ ap (drop (length x)) h.1 ∙ drop_at y s (length x) n);
}

-- ---- nothing fed, and sides with and without a number in front

pub none_code : Code (λ (u : Unit {0}). Unit {0}) (λ u. [])
none_code = record { reads = λ x y p q r s e. (refl, e) }

abbrev pub side_place : {A B : Type 0} → (B → ℕ) → A ⊎ B → ℕ
side_place h (inl x) = 0
side_place h (inr y) = suc (h y)

abbrev pub SideOk : {A B : Type 0} → (A → Type 0) → (B → Type 0) → A ⊎ B → Type 0
SideOk P Q (inl x) = P x
SideOk P Q (inr y) = Q y

abbrev pub side_feed : {A B : Type 0} → (A → List ℕ) → (B → List ℕ) → A ⊎ B → List ℕ
side_feed f g (inl x) = f x
side_feed f g (inr y) = g y

pub last_side : {A : Type 0} {P : A → Type 0} {f : A → List ℕ} → Code P f → Placed (λ (x : A). 0) P f
last_side c = record { reads = λ x y n p q. c.reads x y p q }

module _ {A B : Type 0} {P : A → Type 0} {Q : B → Type 0} {f : A → List ℕ} {g : B → List ℕ} {h : B → ℕ} (c : Code P f) (d : Placed h Q g) where
  side_reads : (x y : A ⊎ B) → side_place h x ≡ side_place h y → SideOk P Q x → SideOk P Q y → (r s : List ℕ) → side_feed f g x ++ r ≡ side_feed f g y ++ s → (x ≡ y) × (r ≡ s)
  side_reads (inl x) (inl y) n p q r s e =
      let k = c.reads x y p q r s e in
      (λ i. inl (k.0 i), k.1)
  side_reads (inl x) (inr y) n p q r s e = absurd (omega arith)
  side_reads (inr x) (inl y) n p q r s e = absurd (omega arith)
  side_reads (inr x) (inr y) n p q r s e =
      let k = d.reads x y (omega arith) p q r s e in
      (λ i. inr (k.0 i), k.1)

  pub side : Placed (side_place h) (SideOk P Q) (side_feed f g)
  side = record { reads = side_reads }

-- the number of the side in front
pub tagged : {A : Type 0} {place : A → ℕ} {P : A → Type 0} {f : A → List ℕ} → Placed place P f → Code P (λ x. place x ∷ f x)
tagged {place} {f} c = record {
  reads = λ x y p q r s e. c.reads x y (cc) p q r s (cc);
}

-- ---- by a function that another takes back

module _ {A B : Type 0} {Q : B → Type 0} {g : B → List ℕ} where
  pub placed_through : {here : A → ℕ} {place : B → ℕ} → Placed place Q g → (P : A → Type 0) (f : A → List ℕ) (out : A → B) (of : B → A) → ((x : A) → of (out x) ≡ x) → ((x : A) → here x ≡ place (out x)) → ((x : A) → f x ≡ g (out x)) → ((x : A) → P x → Q (out x)) → Placed here P f
  placed_through c P f out of back stands is ok = record {
    reads = λ x y n p q r s e.
        let h = c.reads (out x) (out y) (sym (stands x) ∙ n ∙ stands y) (ok x p) (ok y q) r s (rw (is x, is y) at e) in
        (sym (back x) ∙ ap of h.0 ∙ back y, h.1);
  }

  pub through : Code Q g → (P : A → Type 0) (f : A → List ℕ) (out : A → B) (of : B → A) → ((x : A) → of (out x) ≡ x) → ((x : A) → f x ≡ g (out x)) → ((x : A) → P x → Q (out x)) → Code P f
  through c P f out of back is ok = record { reads = λ x y. (placed_through {here = λ x. 0} (last_side c) P f out of back (λ x. refl) is ok).reads x y refl }

-- the same code of fewer values
pub narrower : {A : Type 0} {Q : A → Type 0} {f : A → List ℕ} → Code Q f → (P : A → Type 0) → ((x : A) → P x → Q x) → Code P f
narrower c P ok = record { reads = λ x y p q. c.reads x y (ok x p) (ok y q) }

-- ---- options: 0 for nothing, 1 and the value

abbrev pub option_side : {A : Type 0} → Option A → Unit {0} ⊎ A
option_side None = inl tt
option_side (Some x) = inr x

abbrev pub side_option : {A : Type 0} → Unit {0} ⊎ A → Option A
side_option (inl u) = None
side_option (inr x) = Some x

option_back : {A : Type 0} (o : Option A) → side_option (option_side o) ≡ o
option_back None = refl
option_back (Some x) = refl

-- a value that is fed bare, where something else says whether there is one
pub maybe_code : {A : Type 0} {P : A → Type 0} {f : A → List ℕ} → Code P f → (g : Option A → List ℕ) → g None ≡ [] → ((x : A) → g (Some x) ≡ f x) → Placed (λ o. side_place (λ (x : A). 0) (option_side o)) (λ o. IfSome o P) g
maybe_code {P} {f} c g none some = placed_through (side none_code (last_side c)) (λ o. IfSome o P) g option_side side_option option_back (λ o. refl) (elim [ None ↦ none | Some x ↦ some x ]) (elim [ None ↦ λ h. h | Some x ↦ λ h. h ])

pub option_code : {A : Type 0} {P : A → Type 0} {f : A → List ℕ} → Code P f → Code (λ o. IfSome o P) (feed_option f)
option_code {P} {f} c = through (tagged (side none_code (last_side c))) (λ o. IfSome o P) (feed_option f) option_side side_option option_back (elim [ None ↦ refl | Some x ↦ refl ]) (elim [ None ↦ λ h. h | Some x ↦ λ h. h ])
