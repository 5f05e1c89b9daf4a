-- The stations of a world as they are kept: one of them changes, and one more is after them.
use Rattle.std.proofs.Common.{ℕ, zero, suc, ◌≡◌, ◌≢◌, ◌<◌, ◌+◌, Bool, true, false, List, [], ◌∷◌, ◌++◌, length}
use Rattle.std.proofs.Common.{slice_index_or, slice_set, inl, inr, refl, sym, subst, arith}
use Rattle.std.specs.Prelude.{◌⊎◌, ◌==◌, if◌then◌else◌}
use Rattle.std.proofs.lemmas.Bool.{eqb-true}
use Rattle.smi_tree.specs.Hierarchy.{Hierarchy}
use Rattle.smi_protocol.specs.Display.{Station}
use Rattle.smi_protocol.specs.Grants.{put}
use Rattle.smi_protocol.specs.Opening.{saved_only}
use Rattle.smi_protocol.specs.declared.item.Item.{Item}
use Rattle.smi_protocol.specs.Schedule.{World}
use Rattle.smi_law.proofs.Bridge.{put_same}
use Rattle.smi_law.proofs.GrantKinds.{put_here}
use Rattle.smi_world.specs.Coming.{happening}
use Rattle.smi_world.specs.Left.{Left}
use Rattle.smi_world.specs.Tasks.{Halted, IsHalted, IsStopOf, Turned}
use Rattle.smi_world.specs.Turning.{Act, turn_at}
use Rattle.smi_world.specs.declared.task.Doing.{Doing}
use Rattle.smi_world.specs.declared.task.Doing.TheVariants as doing
use Rattle.smi_world.specs.declared.post.Post.{Post}
use Rattle.smi_world.specs.Posts.{ArePosts, IsPost, Makes}

module _ (h : Hierarchy) where
  -- the station at a place
  pub post_at : (k i : ℕ) (posts : List Post) (stations : ℕ → Station) (d : Post) → i < length posts
      → ArePosts h k posts stations → IsPost h (k + i) (slice_index_or posts i d) (stations (k + i))
  post_at k i [] stations d within are = let wrong : ⊥ = omega (arith, within) in absurd wrong
  post_at k zero (p ∷ posts) stations d within are =
      let same : k ≡ k + 0 = omega arith in subst (λ n. IsPost h n p (stations n)) same are.0
  post_at k (suc i) (p ∷ posts) stations d within are =
      let same : suc k + i ≡ k + suc i = omega arith in
      subst (λ n. IsPost h n (slice_index_or posts i d) (stations n)) same
      (post_at (suc k) i posts stations d (omega (arith, within)) are.1)

  -- a station before these has changed
  other : (stations : ℕ → Station) (n m : ℕ) (s : Station) → m ≢ n → stations m ≡ put stations n s m
  other stations n m s differs = by (m == n) refl
    where
      by : (b : Bool) → (m == n) ≡ b → stations m ≡ (if b then s else stations m)
      by true is = absurd (differs (eqb-true m n is))
      by false is = refl

  others : (k n : ℕ) (posts : List Post) (stations : ℕ → Station) (s : Station) → n < k → ArePosts h k posts stations
      → ArePosts h k posts (put stations n s)
  others k n [] stations s below are = tt
  others k n (p ∷ posts) stations s below are = (
    subst (IsPost h k p) (other stations n k s (λ same. let wrong : ⊥ = omega (arith, below, same) in wrong)) are.0,
    others (suc k) n posts stations s (omega (arith, below)) are.1,
  )

  -- one of them is another now
  pub post_put : (k i : ℕ) (posts : List Post) (stations : ℕ → Station) (p : Post) (s : Station) → i < length posts
      → ArePosts h k posts stations → IsPost h (k + i) p s → ArePosts h k (slice_set posts i p) (put stations (k + i) s)
  post_put k i [] stations p s within are is = let wrong : ⊥ = omega (arith, within) in absurd wrong
  post_put k zero (q ∷ posts) stations p s within are is =
      let same : k + 0 ≡ k = omega arith in
      subst (λ n. ArePosts h k (p ∷ posts) (put stations n s)) (sym same) (
        subst (IsPost h k p) (sym (put_here stations k s)) (subst (λ n. IsPost h n p s) same is),
        others (suc k) k posts stations s (omega arith) are.1,
      )
  post_put k (suc i) (q ∷ posts) stations p s within are is =
      let same : suc k + i ≡ k + suc i = omega arith in
      subst (λ n. ArePosts h k (q ∷ slice_set posts i p) (put stations n s)) same (
        subst (IsPost h k q) (other stations (suc k + i) k s (λ e. let wrong : ⊥ = omega (arith, e) in wrong)) are.0,
        post_put (suc k) i posts stations p s (omega (arith, within)) are.1 (subst (λ n. IsPost h n p s) (sym same) is),
      )

  -- one more
  pub post_more : (k : ℕ) (posts : List Post) (stations : ℕ → Station) (p : Post) → ArePosts h k posts stations
      → IsPost h (k + length posts) p (stations (k + length posts)) → ArePosts h k (posts ++ p ∷ []) stations
  post_more k [] stations p are is = let same : k + 0 ≡ k = omega arith in
      (subst (λ n. IsPost h n p (stations n)) same is, tt)
  post_more k (q ∷ posts) stations p are is =
      let same : k + length (q ∷ posts) ≡ suc k + length posts = omega arith in
      (are.0, post_more (suc k) posts stations p are.1 (subst (λ n. IsPost h n p (stations n)) same is))

-- What one of them has made is what the item makes of the world.
module _ (h : Hierarchy) (w : World) (posts : List Post) (number i : ℕ) (at : number ≡ 1 + i)
    (within : i < length posts) (are : ArePosts h 1 posts w.stations) where
  -- the station of this number is there
  pub there : (d : Post) → IsPost h number (slice_index_or posts i d) (w.stations number)
  there d = subst (λ n. IsPost h n (slice_index_or posts i d) (w.stations n)) (sym at)
      (post_at h 1 i posts w.stations d within are)

  moved : (p : Post) (s : Station) → IsPost h number p s → ArePosts h 1 (slice_set posts i p) (put w.stations number s)
  moved p s is = subst (λ n. ArePosts h 1 (slice_set posts i p) (put w.stations n s)) (sym at)
      (post_put h 1 i posts w.stations p s within are (subst (λ n. IsPost h n p s) at is))

  pub turned_at : (p : Post) (l : Left) (a : Act) → Makes h number p l a
      → Turned h (slice_set posts i p) l (turn_at w number a)
  turned_at p l a makes = record { are = moved p a.station makes.post; entries = makes.entries; sends = makes.sends }

  pub stays_at : (p : Post) → IsPost h number p (w.stations number) → ArePosts h 1 (slice_set posts i p) w.stations
  stays_at p is = subst (ArePosts h 1 (slice_set posts i p)) (put_same w.stations number)
      (moved p (w.stations number) is)

  pub halts_at : (p : Post) (doing : Doing) (x : Item) → IsStopOf h w x number doing
      → (IsPost h number p (w.stations number) ⊎ IsHalted h number p doing (w.stations number))
      → ArePosts h 1 (slice_set posts i p) w.stations ⊎ Halted h (slice_set posts i p) w x
  halts_at p doing x stop (inl is) = inl (stays_at p is)
  halts_at p (doing.StopAfter what) x stop (inr halted) = inr (record {
    number = number;
    what = happening what;
    deed = stop.0;
    is_stop = stop.1;
    comes = stop.2;
    runs = halted.0;
    are = moved p (saved_only h number (w.stations number) (happening what)) halted.1;
  })
  halts_at p (doing.Come what) x stop (inr halted) = absurd halted
  halts_at p doing.Start x stop (inr halted) = absurd halted
  halts_at p (doing.Fail how what) x stop (inr halted) = absurd halted
