-- The opening of a world, station by station.
use Rattle.std.proofs.Common.{ℕ, suc, ◌≡◌, ◌<◌, ◌+◌, ◌-◌, List, [], ◌∷◌, ◌++◌, length, Some, map, append_assoc, refl}
use Rattle.std.proofs.Common.{sym, ap, ◌∙◌, subst, arith}
use Rattle.std.proofs.lemmas.List.{map-append}
use Rattle.std.specs.List.{flat_map, range_with_len}
use mathlib.Core.Path.{fun_ext}
use Rattle.smi_tree.specs.Hierarchy.{Hierarchy}
use Rattle.smi_rows.specs.Store.{Rows, found_in}
use Rattle.smi_protocol.specs.declared.item.Line.{Line}
use Rattle.smi_protocol.specs.declared.item.Line.TheVariants as line
use Rattle.smi_station_grants.proofs.Taking.{no_rows, none_mean}
use Rattle.smi_protocol.specs.Display.{Station}
use Rattle.smi_protocol.specs.Grants.{Grants}
use Rattle.smi_protocol.specs.Loading.{Opens, grants_in}
use Rattle.smi_protocol.specs.Opening.{first_opened, opened, opening_entries}
use Rattle.smi_protocol.specs.declared.entry.Entry.{Entry}
use Rattle.smi_station.specs.Core.{IsOf, IsStoredIn, station_of}
use Rattle.smi_world.specs.declared.post.Post.{Post}
use Rattle.smi_world.specs.Left.{start_entries}
use Rattle.smi_world.specs.Posts.{ArePosts, IsPost}
use Rattle.smi_world.proofs.HeldPosts.{post_more}
use Rattle.std.specs.Prelude.{◌||◌, Ok, false}

-- the stations from one on
abbrev pub opening_from : Hierarchy → ℕ → ℕ → List Entry
opening_from h first count = flat_map (λ number. opening_entries h number (first_opened h number))
    (range_with_len first count)

next : (h : Hierarchy) (a n m : ℕ) → n ≡ suc m
    → opening_from h a n ≡ opening_entries h a (first_opened h a) ++ opening_from h (a + 1) m
next h a n m e = rw e refl

-- one station more
pub opening_on : (h : Hierarchy) (n k : ℕ) (lines new all : List Line) → k < n
    → new ≡ lines ++ map line.Entry (start_entries h (k + 1) (Some 1))
    → lines ++ map line.Entry (opening_from h (k + 1) (n - k)) ≡ all
    → new ++ map line.Entry (opening_from h (k + 1 + 1) (n - (k + 1))) ≡ all
opening_on h n k lines new all below grown same =
    let e : n - k ≡ suc (n - (k + 1)) = omega arith in
    let one = opening_entries h (k + 1) (first_opened h (k + 1)) in
    let rest = opening_from h (k + 1 + 1) (n - (k + 1)) in
    ap (λ (xs : List Line). xs ++ map line.Entry rest) grown
    ∙ append_assoc lines (map line.Entry one) (map line.Entry rest)
    ∙ ap (λ (xs : List Line). lines ++ xs) (sym (map-append line.Entry one rest)
    ∙ ap (map line.Entry) (sym (next h (k + 1) (n - k) (n - (k + 1)) e)))
    ∙ same

-- one station more
pub posts_more : (h : Hierarchy) (n : ℕ) (posts new : List Post) (p : Post) → new ≡ posts ++ p ∷ []
    → length posts ≡ n → ArePosts h 1 posts (first_opened h) → IsPost h (n + 1) p (first_opened h (n + 1))
    → (length new ≡ n + 1) × ArePosts h 1 new (first_opened h)
posts_more h n posts new p grown count are is =
    let e : n + 1 ≡ 1 + length posts = omega (arith, count) in (
      ap length grown ∙ by posts ∙ ap (λ k. k + 1) count,
      subst (λ (xs : List Post). ArePosts h 1 xs (first_opened h)) (sym grown)
          (post_more h 1 posts (first_opened h) p are (subst (λ k. IsPost h k p (first_opened h k)) e is)),
    )
  where
    by : (xs : List Post) → length (xs ++ p ∷ []) ≡ length xs + 1
    by [] = refl
    by (x ∷ xs) = let e = by xs in omega (arith, e)

-- a station that opens without rows starts for the first time
pub first_is : (h : Hierarchy) (number : ℕ) (p : Post) → p.is_down ≡ false
    → Opens h number (found_in []) (Ok (station_of p.station.core)) → IsOf h number p.station.core
    → IsStoredIn (found_in p.station.store.list) p.station.core → IsPost h number p (first_opened h number)
first_is h number p in_ opens of stored = record {
  of_tree = of;
  grants = ap (λ (s : Station). s.grants) now;
  stopped = by p.is_down in_;
  display = λ running. ap (λ (s : Station). s.display) now;
  stored = stored;
}
  where
    rows : found_in [] ≡ no_rows
    rows = fun_ext (λ k. refl)

    now : station_of p.station.core ≡ first_opened h number
    now = opens.3 ∙ ap (λ (r : Rows). opened h number (grants_in h number r)) rows
        ∙ ap (λ (g : Grants). opened h number g) (sym (none_mean h number))

    by : (b : _) → b ≡ false → false ≡ (p.station.core.is_stopped || b)
    by b is = rw is (ap (λ (s : Station). s.is_stopped || false) (sym now))
