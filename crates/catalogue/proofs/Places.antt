-- A member at its place, under a lawful order.
use Rattle.std.proofs.Common.{◌≡◌, ℕ, zero, suc, ◌+◌, ◌<◌, ◌≤◌, true, false, ◌⊎◌, ◌||◌, List, [], ◌∷◌, length, get_or, Ordering, Less, Equal, Greater, sym, refl, ap, ◌∙◌, subst, inl, inr, true≢false, arith}
use Rattle.std.specs.List.{insert}
use Rattle.std.specs.Ordering.{is_eq, is_lt, ordering_reverse}
use Rattle.std.proofs.lemmas.Bool.{and_parts, and_from, or_from, or_left, or_right, or_cases, or_parts, cases_order}
use Rattle.terms.specs.Compare.{Order}
use Rattle.terms.proofs.Lawful.{Lawful, less_greater, self}
use Rattle.catalogue.specs.Placed.{pick, placed, stands, under, rises, Among}

is_less : (r : Ordering) → is_lt r ≡ true → r ≡ Less
is_less Less e = refl
is_less Equal e = absurd (true≢false (sym e))
is_less Greater e = absurd (true≢false (sym e))

equal_is : (r : Ordering) → is_eq r ≡ true → r ≡ Equal
equal_is Less e = absurd (true≢false (sym e))
equal_is Equal e = refl
equal_is Greater e = absurd (true≢false (sym e))

module _ {A : Type 0} {o : Order A} (w : Lawful o) where
  onward : (x y z : A) → o x y ≡ Less → o y z ≡ Less → o x z ≡ Less
  onward x y z e f = rw (e, f) at (w.steps x y z)

  turned : (x y : A) (r : Ordering) → o x y ≡ r → o y x ≡ ordering_reverse r
  turned x y r e = w.swap x y ∙ ap ordering_reverse e

  back : (x y z : A) → o x y ≡ Greater → o y z ≡ Greater → o x z ≡ Greater
  back x y z e f = rw (e, f) at (w.steps x y z)

  -- ---- members of a list that rises

  under_at : (x : A) (ys : List A) (k : ℕ) (d : A) → under o x ys ≡ true → k < length ys → o x (get_or ys k d) ≡ Less
  under_at x [] k d h l = absurd (omega arith)
  under_at x (y ∷ ys) zero d h l = is_less (o x y) (and_parts (is_lt (o x y)) (under o x ys) h).0
  under_at x (y ∷ ys) (suc k) d h l = under_at x ys k d (and_parts (is_lt (o x y)) (under o x ys) h).1 (omega arith)

  -- an earlier member is less than a later one
  pub rises_at : (ys : List A) (i j : ℕ) (d : A) → rises o ys ≡ true → i < j → j < length ys → o (get_or ys i d) (get_or ys j d) ≡ Less
  rises_at [] i j d h l m = absurd (omega arith)
  rises_at (y ∷ ys) i zero d h l m = absurd (omega arith)
  rises_at (y ∷ ys) zero (suc j) d h l m = under_at y ys j d (and_parts (under o y ys) (rises o ys) h).0 (omega arith)
  rises_at (y ∷ ys) (suc i) (suc j) d h l m = rises_at ys i j d (and_parts (under o y ys) (rises o ys) h).1 (omega arith) (omega arith)

  -- ---- the narrowing of a search for x

  abbrev pub Below : A → List A → A → ℕ → Type 0
  Below x ys d i = (k : ℕ) → k < i → o x (get_or ys k d) ≡ Greater

  abbrev pub Above : A → List A → A → ℕ → Type 0
  Above x ys d i = (k : ℕ) → i ≤ k → k < length ys → o x (get_or ys k d) ≡ Less

  -- x is less than the member at m, and so than all that follow
  pub lowered : (x : A) (ys : List A) (d : A) (m : ℕ) → rises o ys ≡ true → o x (get_or ys m d) ≡ Less → Above x ys d m
  lowered x ys d m h e k l n =
      elim (cases_order m k) [
        | inl s ↦ subst (λ (j : ℕ). o x (get_or ys j d) ≡ Less) s e
        | inr s ↦ elim s [
          | inl t ↦ onward x (get_or ys m d) (get_or ys k d) e (rises_at ys m k d h t n)
          | inr t ↦ absurd (omega arith)
        ]
      ]

  -- x is above the member at m, and so above all before it
  pub raised : (x : A) (ys : List A) (d : A) (m : ℕ) → rises o ys ≡ true → m < length ys → o x (get_or ys m d) ≡ Greater → Below x ys d (m + 1)
  raised x ys d m h n e k l =
      elim (cases_order k m) [
        | inl s ↦ subst (λ (j : ℕ). o x (get_or ys j d) ≡ Greater) (sym s) e
        | inr s ↦ elim s [
          | inl t ↦ back x (get_or ys m d) (get_or ys k d) e (turned (get_or ys k d) (get_or ys m d) Less (rises_at ys k m d h t n))
          | inr t ↦ absurd (omega arith)
        ]
      ]

  -- ---- where a search ends

  pub found : (x : A) (ys : List A) (d : A) (m : ℕ) → m < length ys → o x (get_or ys m d) ≡ Equal → stands o x ys ≡ true
  found x [] d m l e = absurd (omega arith)
  found x (y ∷ ys) d zero l e = or_left (is_eq (o x y)) (stands o x ys) (ap is_eq e)
  found x (y ∷ ys) d (suc m) l e = or_right (is_eq (o x y)) (stands o x ys) (found x ys d m (omega arith) e)

  missed : (x : A) (ys : List A) (d : A) → ((k : ℕ) → k < length ys → is_eq (o x (get_or ys k d)) ≡ false) → stands o x ys ≡ false
  missed x [] d h = refl
  missed x (y ∷ ys) d h = or_from (is_eq (o x y)) (stands o x ys) (h 0 (omega arith)) (missed x ys d (λ k l. h (suc k) (omega arith)))

  pub absent : (x : A) (ys : List A) (d : A) (i : ℕ) → Below x ys d i → Above x ys d i → stands o x ys ≡ false
  absent x ys d i b a = missed x ys d (λ k l. elim (cases_order i k) [
    | inl s ↦ ap is_eq (a k (omega arith) l)
    | inr s ↦ elim s [ inl t ↦ ap is_eq (a k (omega arith) l) | inr t ↦ ap is_eq (b k t) ]
  ])

  -- a new member goes before the first that is greater
  pub placed_at : (x : A) (ys : List A) (d : A) (i : ℕ) → i ≤ length ys → Below x ys d i → Above x ys d i → placed o x ys ≡ insert ys i x
  placed_at x [] d zero l b a = refl
  placed_at x [] d (suc i) l b a = absurd (omega arith)
  placed_at x (y ∷ ys) d zero l b a = ap (λ (r : Ordering). pick r (x ∷ y ∷ ys) (y ∷ ys) (y ∷ placed o x ys)) (a 0 (omega arith) (omega arith))
  placed_at x (y ∷ ys) d (suc i) l b a =
      ap (λ (r : Ordering). pick r (x ∷ y ∷ ys) (y ∷ ys) (y ∷ placed o x ys)) (b 0 (omega arith))
      ∙ ap (λ (r : List A). y ∷ r) (placed_at x ys d i (omega arith) (λ k m. b (suc k) (omega arith)) (λ k m n. a (suc k) (omega arith) (omega arith)))

  -- ---- a member that stands is not placed again

  beyond : (x y : A) (ys : List A) → under o y ys ≡ true → stands o x ys ≡ true → o y x ≡ Less
  beyond x y [] h s = absurd (true≢false (sym s))
  beyond x y (z ∷ zs) h s =
      let p = and_parts (is_lt (o y z)) (under o y zs) h in
      elim (or_cases (is_eq (o x z)) (stands o x zs) s) [
        | inl e ↦ rw (w.same x z (equal_is (o x z) e)) (is_less (o y z) p.0)
        | inr t ↦ beyond x y zs p.1 t
      ]

  pub placed_same : (x : A) (ys : List A) → rises o ys ≡ true → stands o x ys ≡ true → placed o x ys ≡ ys
  placed_same x [] h s = absurd (true≢false (sym s))
  placed_same x (y ∷ ys) h s =
      let p = and_parts (under o y ys) (rises o ys) h in
      by (o x y) refl s (λ t. beyond x y ys p.0 t) (placed_same x ys p.1)
    where
      by : (r : Ordering) → o x y ≡ r → is_eq r || stands o x ys ≡ true → (stands o x ys ≡ true → o y x ≡ Less) → (stands o x ys ≡ true → placed o x ys ≡ ys) → pick r (x ∷ y ∷ ys) (y ∷ ys) (y ∷ placed o x ys) ≡ y ∷ ys
      by Less e s b m = less_greater (sym (b s) ∙ turned x y Less e)
      by Equal e s b m = refl
      by Greater e s b m = ap (λ (l : List A). y ∷ l) (m s)

  pub placed_found : (x : A) (ys : List A) (d : A) (m : ℕ) → rises o ys ≡ true → m < length ys → o x (get_or ys m d) ≡ Equal → placed o x ys ≡ ys
  placed_found x ys d m h l e = placed_same x ys h (found x ys d m l e)

  -- ---- the laws of a list with one more member

  under_on : (x y : A) (zs : List A) → o x y ≡ Less → under o y zs ≡ true → under o x zs ≡ true
  under_on x y [] e h = refl
  under_on x y (z ∷ zs) e h =
      let p = and_parts (is_lt (o y z)) (under o y zs) h in
      and_from (is_lt (o x z)) (under o x zs) (ap is_lt (onward x y z e (is_less (o y z) p.0))) (under_on x y zs e p.1)

  under_placed : (y x : A) (zs : List A) → o y x ≡ Less → under o y zs ≡ true → under o y (placed o x zs) ≡ true
  under_placed y x [] e h = rw e refl
  under_placed y x (z ∷ zs) e h =
      let p = and_parts (is_lt (o y z)) (under o y zs) h in
      by p.0 (under_placed y x zs e p.1) (o x z)
    where
      by : is_lt (o y z) ≡ true → under o y (placed o x zs) ≡ true → (r : Ordering) → under o y (pick r (x ∷ z ∷ zs) (z ∷ zs) (z ∷ placed o x zs)) ≡ true
      by l m Less = rw e h
      by l m Equal = h
      by l m Greater = and_from (is_lt (o y z)) (under o y (placed o x zs)) l m

  pub rises_placed : (x : A) (ys : List A) → rises o ys ≡ true → rises o (placed o x ys) ≡ true
  rises_placed x [] h = refl
  rises_placed x (y ∷ ys) h =
      let p = and_parts (under o y ys) (rises o ys) h in
      by p.0 (rises_placed x ys p.1) (o x y) refl
    where
      by : under o y ys ≡ true → rises o (placed o x ys) ≡ true → (r : Ordering) → o x y ≡ r → rises o (pick r (x ∷ y ∷ ys) (y ∷ ys) (y ∷ placed o x ys)) ≡ true
      by u m Less e = and_from (under o x (y ∷ ys)) (rises o (y ∷ ys)) (rw e (under_on x y ys e u)) h
      by u m Equal e = h
      by u m Greater e = and_from (under o y (placed o x ys)) (rises o (placed o x ys)) (under_placed y x ys (turned x y Greater e) u) m

  -- each member was there, or is the new one
  pub members_from : (z x : A) (ys : List A) → Among z (placed o x ys) → (z ≡ x) ⊎ Among z ys
  members_from z x [] m = m
  members_from z x (y ∷ ys) m = by (members_from z x ys) (o x y) m
    where
      by : (Among z (placed o x ys) → (z ≡ x) ⊎ Among z ys) → (r : Ordering) → Among z (pick r (x ∷ y ∷ ys) (y ∷ ys) (y ∷ placed o x ys)) → (z ≡ x) ⊎ Among z (y ∷ ys)
      by t Less m = m
      by t Equal m = inr m
      by t Greater (inl e) = inr (inl e)
      by t Greater (inr m) = elim (t m) [ inl e ↦ inl e | inr n ↦ inr (inr n) ]

  -- the new one is there, and so is each that was
  pub members_to : (z x : A) (ys : List A) → (z ≡ x) ⊎ Among z ys → Among z (placed o x ys)
  members_to z x [] m = m
  members_to z x (y ∷ ys) m = by (members_to z x ys) (o x y) refl m
    where
      by : ((z ≡ x) ⊎ Among z ys → Among z (placed o x ys)) → (r : Ordering) → o x y ≡ r → (z ≡ x) ⊎ Among z (y ∷ ys) → Among z (pick r (x ∷ y ∷ ys) (y ∷ ys) (y ∷ placed o x ys))
      by t Less e m = m
      by t Equal e (inl f) = inl (f ∙ w.same x y e)
      by t Equal e (inr m) = m
      by t Greater e (inl f) = inr (t (inl f))
      by t Greater e (inr (inl f)) = inl f
      by t Greater e (inr (inr m)) = inr (t (inr m))

  -- to stand in a list is to be a member of it
  pub stands_among : (x : A) (ys : List A) → stands o x ys ≡ true → Among x ys
  stands_among x [] h = absurd (true≢false (sym h))
  stands_among x (y ∷ ys) h = elim (or_cases (is_eq (o x y)) (stands o x ys) h) [
    | inl e ↦ inl (w.same x y (equal_is (o x y) e))
    | inr s ↦ inr (stands_among x ys s)
  ]

  pub absent_among : (x : A) (ys : List A) → stands o x ys ≡ false → Among x ys → ⊥
  absent_among x [] h m = m
  absent_among x (y ∷ ys) h (inl e) = true≢false (sym (ap is_eq (ap (o x) (sym e) ∙ self w x)) ∙ (or_parts (is_eq (o x y)) (stands o x ys) h).0)
  absent_among x (y ∷ ys) h (inr m) = absent_among x ys (or_parts (is_eq (o x y)) (stands o x ys) h).1 m

  -- a new member makes the list one longer
  pub placed_longer : (x : A) (ys : List A) → stands o x ys ≡ false → length (placed o x ys) ≡ length ys + 1
  placed_longer x [] h = omega arith
  placed_longer x (y ∷ ys) h =
      let p = or_parts (is_eq (o x y)) (stands o x ys) h in
      by (placed_longer x ys p.1) (o x y) p.0
    where
      by : length (placed o x ys) ≡ length ys + 1 → (r : Ordering) → is_eq r ≡ false → length (pick r (x ∷ y ∷ ys) (y ∷ ys) (y ∷ placed o x ys)) ≡ length (y ∷ ys) + 1
      by m Less e = omega arith
      by m Equal e = absurd (true≢false e)
      by m Greater e = omega arith
