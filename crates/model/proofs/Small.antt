-- Options, results and tests.
use Rattle.std.proofs.Common.{◌≡◌, Bool, true, false, ◌&&◌, is_some, is_ok, Some, None, Ok, Err, Option, Result, sym, refl, ap, true≢false}
use Rattle.std.specs.Result.{result_ok}

pub some_none : {A X : Type 0} (x : A) → ◌≡◌ {A = Option A} (Some x) None → X
some_none x e = absurd (true≢false (ap is_some e))

pub ok_err : {A E X : Type 0} (x : A) (y : E) → ◌≡◌ {A = Result A E} (Ok x) (Err y) → X
ok_err x y e = absurd (true≢false (ap is_ok e))

abbrev from_some : {A : Type 0} → A → Option A → A
from_some d None = d
from_some d (Some x) = x

pub some_same : {A : Type 0} (x y : A) → ◌≡◌ {A = Option A} (Some x) (Some y) → x ≡ y
some_same x y e = ap (from_some x) e

pub ok_same : {A E : Type 0} (x y : A) → ◌≡◌ {A = Result A E} (Ok x) (Ok y) → x ≡ y
ok_same x y e = some_same x y (ap result_ok e)

pub and_left : (a b : Bool) → (a && b) ≡ true → a ≡ true
and_left true b e = refl
and_left false b e = absurd (true≢false (sym e))

pub and_right : (a b : Bool) → (a && b) ≡ true → b ≡ true
and_right true b e = e
and_right false b e = absurd (true≢false (sym e))
