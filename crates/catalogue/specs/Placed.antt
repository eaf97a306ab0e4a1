-- Lists in order, and the place of one more member.
use Rattle.std.specs.Prelude.{◌≡◌, Bool, true, false, ◌&&◌, ◌||◌, ◌⊎◌, List, [], ◌∷◌}
use Rattle.std.specs.declared.cmp.Ordering.TheVariants.{Less, Equal, Greater}
use Rattle.std.specs.declared.cmp.Ordering.{Ordering}
use Rattle.std.specs.Ordering.{is_eq, is_lt}
use Rattle.terms.specs.Compare.{Order}

-- the first at Less, the second at Equal, the third at Greater
abbrev pub pick : {X : Type 0} → Ordering → X → X → X → X
pick Less a b c = a
pick Equal a b c = b
pick Greater a b c = c

-- with x before the first member that is greater; as it was where an equal one stands
abbrev pub placed : {A : Type 0} → Order A → A → List A → List A
placed o x [] = x ∷ []
placed o x (y ∷ ys) = pick (o x y) (x ∷ y ∷ ys) (y ∷ ys) (y ∷ placed o x ys)

-- whether a member equals x
abbrev pub stands : {A : Type 0} → Order A → A → List A → Bool
stands o x [] = false
stands o x (y ∷ ys) = is_eq (o x y) || stands o x ys

-- whether x is less than each member
abbrev pub under : {A : Type 0} → Order A → A → List A → Bool
under o x [] = true
under o x (y ∷ ys) = is_lt (o x y) && under o x ys

-- whether each member is less than all that follow it
abbrev pub rises : {A : Type 0} → Order A → List A → Bool
rises o [] = true
rises o (x ∷ xs) = under o x xs && rises o xs

-- x is a member
abbrev pub Among : {A : Type 0} → A → List A → Type 0
Among x [] = ⊥
Among x (y ∷ ys) = (x ≡ y) ⊎ Among x ys
