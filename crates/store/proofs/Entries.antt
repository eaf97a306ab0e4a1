-- A loop that keeps the links of a node.
use Rattle.std.proofs.Common.{◌≡◌, true, List, [], ◌∷◌, ◌++◌, map, sym, refl}
use Rattle.std.proofs.lemmas.List.{append_assoc, append-nil, map_push}
use Rattle.std.proofs.lemmas.Bool.{and_from}
use Rattle.terms.specs.Terms.{Text}
use Rattle.terms.specs.Bank.{Child}
use Rattle.leaves.specs.Values.{read}
use Rattle.model.specs.Checks.{every}
use Rattle.pairs.specs.declared.link.Link.{Link}
use Rattle.pairs.specs.Links.{child_of}
use Rattle.store.specs.Pools.{Pool, plus, Grows}
use Rattle.store.specs.Tables.{key_in}
use Rattle.store.specs.Stores.{Entered}
use Rattle.store.proofs.Pieces.{every_push, every_stays}
use Rattle.store.proofs.Stays.{links_more, key_in_more}

pub entered_none : (links : List Link) (s : Pool) → Entered links links s []
entered_none links s = ([], (sym (append-nil links), refl, refl))

module _ (s s' : Pool) (grows : Grows s s') (ls : List Link) (keys : every (key_in s) ls ≡ true) where
  kids_stay : map (child_of s'.bytes) ls ≡ map (child_of s.bytes) ls
  kids_stay = rw grows.1 (links_more s grows.0 ls keys)

  keys_stay : every (key_in s') ls ≡ true
  keys_stay = rw grows.1 (every_stays (key_in s) (key_in (plus s grows.0)) (key_in_more s grows.0) ls keys)

pub entered_more : (links was now' : List Link) (s s' : Pool) (seen : List Child) (x : Link) (t : Text) → Entered links was s seen → Grows s s'
    → now' ≡ was ++ x ∷ []
    → read s'.bytes x.key ≡ t
    → key_in s' x ≡ true
    → Entered links now' s' (seen ++ (t, x.child) ∷ [])
entered_more links was now' s s' seen x t (ls, (p, q, r)) grows e f k =
    let a = append_assoc links ls (x ∷ []) in
    let m = map_push (child_of s'.bytes) ls x in
    let y = kids_stay s s' grows ls r in (
      ls ++ x ∷ [],
      (
        cc,
        cc,
        every_push (key_in s') ls (x ∷ []) (keys_stay s s' grows ls r) (and_from (key_in s' x) true k refl),
      ),
    )
