-- What a display's tables are after a change.
use Rattle.std.proofs.Common.{ℕ, zero, suc, ◌≡◌, ◌≤◌, ◌-◌, Bool, true, false, List, [], Option, Some, None, map, refl}
use Rattle.std.proofs.Common.{sym, ap, ◌∙◌, subst}
use Rattle.std.specs.Prelude.{◌==◌, if◌then◌else◌, nat_lt, replicate}
use Rattle.std.specs.List.{slice_index_or}
use Rattle.std.proofs.Math.ListN.{set, get_or-map}
use Rattle.std.proofs.lemmas.List.{length-set, length-map}
use mathlib.Core.Path.{fun_ext}
use Rattle.smi_tree.specs.Lawful.{IsBetween}
use Rattle.smi_tree.specs.Lookups.{domain_count, state_count, station_count, operator_count}
use Rattle.smi_publish.specs.declared.condition.Condition.{Condition}
use Rattle.std.specs.Prelude.{IfSome}
use Rattle.std.specs.List.{AllByRecursion}
use Rattle.smi_command.proofs.Heard.{choose}
use Rattle.smi_message.specs.Message.{is_boot}
use Rattle.smi_publish.specs.Published.{HasRoom, Published, change_at, changes_at, conditions_of, differs, shown_at}
use Rattle.smi_publish.specs.Publishing.{acted, evaluated, first_condition, reported}
use Rattle.std.proofs.lemmas.Bool.{eq-eqb}
use Rattle.smi_grant.specs.declared.Shown.{Shown}
use Rattle.smi_tree.specs.Hierarchy.{Hierarchy}
use Rattle.smi_view.specs.declared.Acceptance.{Acceptance}
use Rattle.smi_view.specs.declared.Acceptance.TheVariants.{Accepted, OtherBoot, NotNewer}
use Rattle.smi_view.specs.Accepting.{acceptance, is_newer_than_last, last_after, last_of}
use Rattle.smi_watchers.specs.declared.Watcher.{Watcher}
use Rattle.smi_watchers.specs.Watching.{unwatched, watcher}
use Rattle.smi_protocol.specs.Display.{Display}
use Rattle.smi_protocol.specs.Grants.{put}
use Rattle.smi_protocol.specs.Opening.{first_display, object_count}
use Rattle.smi_protocol.specs.SoundDisplay.{IsDisplay, IsShown, IsWatcher, MayChange}
use Rattle.smi_protocol.specs.Watching.{has_asked, is_watched, lists_after, lists_before, showed_if, state_comes}
use Rattle.smi_protocol.specs.Watching.{watch_comes}
use Rattle.smi_protocol.specs.Ticking.{first_place}
use Rattle.smi_protocol.specs.declared.ResendCursor.{ResendCursor}
use Rattle.smi_protocol.proofs.SoundDisplay.{Conditions, display_shown, passed_all, acted_sound, answered_sound}
use Rattle.smi_protocol.proofs.SoundDisplay.{asked_sound, conditions_sound, evaluated_sound, named_sound}
use Rattle.smi_protocol.proofs.SoundDisplay.{reported_sound, unwatch_sound, watch_sound}
use Rattle.smi_station_grants.specs.Entries.{entry_or}
use Rattle.smi_station_grants.proofs.Writes.{table_set}
use Rattle.smi_station_display.specs.Displayed.{Displayed, IsDisplayed, display_of}
use Rattle.smi_station_display.specs.Listening.{forgotten}

-- the default stays the default
pub entry_map : {X : Type 0} (f : X → X) (xs : List X) (n : ℕ) (d : X) → f d ≡ d
    → entry_or (map f xs) n d ≡ f (entry_or xs n d)
entry_map {X = X} f xs n d same = by (n == 0)
  where
    read : (xs : List X) (i : ℕ) → slice_index_or (map f xs) i d ≡ f (slice_index_or xs i d)
    read xs i = subst (λ e. slice_index_or (map f xs) i e ≡ f (slice_index_or xs i d)) same (get_or-map f xs i d)

    by : (b : Bool) → (if b then d else slice_index_or (map f xs) (n - 1) d)
        ≡ f (if b then d else slice_index_or xs (n - 1) d)
    by true = sym same
    by false = read xs (n - 1)

-- empty tables
entry_replicate : {X : Type 0} (d : X) (n m : ℕ) → entry_or (replicate n d) m d ≡ d
entry_replicate {X = X} d n m = by (m == 0)
  where
    read : (n i : ℕ) → slice_index_or (replicate n d) i d ≡ d
    read zero i = refl
    read (suc n) zero = refl
    read (suc n) (suc i) = read n i

    by : (b : Bool) → (if b then d else slice_index_or (replicate n d) (m - 1) d) ≡ d
    by true = refl
    by false = read n (m - 1)

-- a station at its start
pub first_is : (s : Displayed) (h : Hierarchy) (number a b c : ℕ)
    → conditions_of s.published ≡ first_condition h number → ((x : ℕ) → last_of s.views x ≡ None)
    → s.named ≡ replicate a false → s.echoes ≡ replicate b 0
    → s.watchers ≡ replicate (object_count h) [] → s.place ≡ first_place → s.asks ≡ replicate c None
    → display_of s ≡ first_display h number
first_is s h number a b c conditions views named echoes watchers place asks =
    let shown : ◌≡◌ {A = ℕ → Option Shown} (last_of s.views) (λ x. None) = fun_ext views in
    let by_object : ◌≡◌ {A = ℕ → Bool} (λ x. entry_or s.named x false) (λ x. false) = fun_ext
    (λ x. ap (λ xs. entry_or xs x false) named ∙ entry_replicate false a x) in
    let by_station : ◌≡◌ {A = ℕ → ℕ} (λ x. entry_or s.echoes x 0) (λ x. 0) = fun_ext
    (λ x. ap (λ xs. entry_or xs x 0) echoes ∙ entry_replicate 0 b x) in
    let by_operator : ◌≡◌ {A = ℕ → Option ℕ} (λ o. entry_or s.asks o None) (λ o. None) = fun_ext
    (λ x. ap (λ xs. entry_or xs x None) asks ∙ entry_replicate None c x) in
    ap (λ (f : ℕ → Option Condition). record (display_of s) { conditions = f }) conditions
    ∙ ap (λ (f : ℕ → Option Shown). record (display_of s) { conditions = first_condition h number; shown = f }) shown
    ∙ ap (λ (f : ℕ → Bool). record (display_of s) {
      conditions = first_condition h number;
      shown = λ x. None;
      named = f;
    }) by_object
    ∙ ap (λ (f : ℕ → ℕ). record (display_of s) {
      conditions = first_condition h number;
      shown = λ x. None;
      named = λ x. false;
      echoes = f;
    }) by_station
    ∙ ap (λ (ws : List (List Watcher)). record
    (first_display h number) { watchers = ws; place = s.place; asks = (display_of s).asks }) watchers
    ∙ ap (λ (p : ResendCursor). record (first_display h number) { place = p; asks = (display_of s).asks }) place
    ∙ ap (λ (f : ℕ → Option ℕ). record (first_display h number) { asks = f }) by_operator

module _ (s : Displayed) (old : IsDisplayed s) where
  published_kept : (p : Published) → p.boot ≡ s.published.boot
      → IsDisplay s.tree s.number (record (display_of s) { conditions = conditions_of p })
      → IsDisplayed (record s { published = p })
  published_kept p same sound = record {
    tree = old.tree;
    number = old.number;
    boot = rw same old.boot;
    one_boot = old.one_boot ∙ sym same;
    views = old.views;
    named = old.named;
    echoes = old.echoes;
    asks = old.asks;
    sound = sound;
  }

  pub acted_kept : (p : Published) (d action : ℕ) → p.boot ≡ s.published.boot
      → conditions_of p ≡ acted s.tree (conditions_of s.published) d action → MayChange (display_of s)
      → IsDisplayed (record s { published = p })
  acted_kept p d action same is room = published_kept p same
      (conditions_sound s.tree s.number (display_of s) old.sound (conditions_of p)
      (subst (Conditions s.tree s.number) (sym is)
      (acted_sound s.tree s.number (conditions_of s.published) (old.sound.own, old.sound.conditions) old.tree d
      action (λ x among. room x))))

  pub reported_kept : (p : Published) (x state : ℕ) → p.boot ≡ s.published.boot
      → conditions_of p ≡ reported (conditions_of s.published) x state → MayChange (display_of s)
      → IsBetween 1 (state_count s.tree) state
      → IsDisplayed (record s { published = p })
  reported_kept p x state same is room within = published_kept p same
      (conditions_sound s.tree s.number (display_of s) old.sound (conditions_of p)
      (subst (Conditions s.tree s.number) (sym is)
      (reported_sound s.tree s.number (conditions_of s.published) (old.sound.own, old.sound.conditions) x state
      (room x) within)))

  pub evaluated_kept : (p : Published) (d : ℕ) (members : List ℕ) → p.boot ≡ s.published.boot
      → conditions_of p ≡ evaluated s.tree (conditions_of s.published) d members → HasRoom (conditions_of s.published) d
      → IsDisplayed (record s { published = p })
  evaluated_kept p d members same is room = published_kept p same
      (conditions_sound s.tree s.number (display_of s) old.sound (conditions_of p)
      (subst (Conditions s.tree s.number) (sym is)
      (evaluated_sound s.tree s.number (conditions_of s.published) (old.sound.own, old.sound.conditions) old.tree d
      members room)))

  -- a watch
  watch_table : (from echo : ℕ) → IsBetween 1 (station_count s.tree) from
      → ◌≡◌ {A = ℕ → ℕ} (λ m. entry_or (set s.echoes (from - 1) echo) m 0) (put (display_of s).echoes from echo)
  watch_table from echo within = table_set s.echoes from echo 0 within.least
      (subst (λ n. from ≤ n) (sym old.echoes) within.most)

  pub watch_kept : (lists : List (List Watcher)) (x from echo : ℕ) → IsWatcher s.tree (watcher from echo)
      → lists ≡ lists_after (lists_before (display_of s) from echo) x from echo
      → IsDisplayed (record s { echoes = set s.echoes (from - 1) echo; watchers = lists })
  watch_kept lists x from echo new is = record {
    tree = old.tree;
    number = old.number;
    boot = old.boot;
    one_boot = old.one_boot;
    views = old.views;
    named = old.named;
    echoes = length-set s.echoes (from - 1) echo ∙ old.echoes;
    asks = old.asks;
    sound = rw (watch_table from echo new.station, is)
        (watch_sound s.tree s.number (display_of s) old.sound x from echo new);
  }

  pub watch_is : (lists : List (List Watcher)) (x from echo : ℕ) → IsBetween 1 (station_count s.tree) from
      → lists ≡ lists_after (lists_before (display_of s) from echo) x from echo
      → display_of (record s { echoes = set s.echoes (from - 1) echo; watchers = lists })
      ≡ record (display_of s) {
        echoes = put (display_of s).echoes from echo;
        watchers = lists_after (lists_before (display_of s) from echo) x from echo;
      }
  watch_is lists x from echo within is = rw (watch_table from echo within, is) refl

  pub watched_is : (lists : List (List Watcher)) (x from echo : ℕ) → IsBetween 1 (station_count s.tree) from
      → nat_lt echo ((display_of s).echoes from) ≡ false
      → lists ≡ lists_after (lists_before (display_of s) from echo) x from echo
      → display_of (record s { echoes = set s.echoes (from - 1) echo; watchers = lists })
      ≡ (watch_comes s.tree s.number s.published.boot (display_of s) from x echo).display
  watched_is lists x from echo within current is = rw current (watch_is lists x from echo within is)

  pub unwatch_kept : (lists : List (List Watcher)) (x from echo : ℕ) → lists ≡ unwatched s.watchers x from echo
      → IsDisplayed (record s { watchers = lists })
  unwatch_kept lists x from echo is = record {
    tree = old.tree;
    number = old.number;
    boot = old.boot;
    one_boot = old.one_boot;
    views = old.views;
    named = old.named;
    echoes = old.echoes;
    asks = old.asks;
    sound = rw is (unwatch_sound s.tree s.number (display_of s) old.sound x from echo);
  }

  -- what operators name, and ask about
  named_table : (x : ℕ) (b : Bool) → IsBetween 1 (object_count s.tree) x
      → ◌≡◌ {A = ℕ → Bool} (λ m. entry_or (set s.named (x - 1) b) m false) (put (display_of s).named x b)
  named_table x b within = table_set s.named x b false within.least (subst (λ n. x ≤ n) (sym old.named) within.most)

  pub named_kept : (x : ℕ) (b : Bool) → IsBetween 1 (object_count s.tree) x
      → IsDisplayed (record s { named = set s.named (x - 1) b })
  named_kept x b within = record {
    tree = old.tree;
    number = old.number;
    boot = old.boot;
    one_boot = old.one_boot;
    views = old.views;
    named = length-set s.named (x - 1) b ∙ old.named;
    echoes = old.echoes;
    asks = old.asks;
    sound = rw (named_table x b within) (named_sound s.tree s.number (display_of s) old.sound x b within);
  }

  pub named_is : (x : ℕ) (b : Bool) → IsBetween 1 (object_count s.tree) x
      → display_of (record s { named = set s.named (x - 1) b })
      ≡ record (display_of s) { named = put (display_of s).named x b }
  named_is x b within = rw (named_table x b within) refl

  asked_table : (o d : ℕ) → IsBetween 1 (operator_count s.tree) o
      → ◌≡◌ {A = ℕ → Option ℕ} (λ m. entry_or (set s.asks (o - 1) (Some d)) m None) (put (display_of s).asks o (Some d))
  asked_table o d within = table_set s.asks o (Some d) None within.least (subst (λ n. o ≤ n) (sym old.asks) within.most)

  pub asked_kept : (o d : ℕ) → IsBetween 1 (operator_count s.tree) o → IsBetween 1 (domain_count s.tree) d
      → IsDisplayed (record s { asks = set s.asks (o - 1) (Some d) })
  asked_kept o d within about = record {
    tree = old.tree;
    number = old.number;
    boot = old.boot;
    one_boot = old.one_boot;
    views = old.views;
    named = old.named;
    echoes = old.echoes;
    asks = length-set s.asks (o - 1) (Some d) ∙ old.asks;
    sound = rw (asked_table o d within) (asked_sound s.tree s.number (display_of s) old.sound o d about);
  }

  pub asked_is : (o d : ℕ) → IsBetween 1 (operator_count s.tree) o
      → display_of (record s { asks = set s.asks (o - 1) (Some d) })
      ≡ record (display_of s) { asks = put (display_of s).asks o (Some d) }
  asked_is o d within = rw (asked_table o d within) refl

  forgotten_table : (d : ℕ) → ◌≡◌ {A = ℕ → Option ℕ} (λ m. entry_or (map (forgotten d) s.asks) m None)
      (λ o. if has_asked (display_of s) d o then None else (display_of s).asks o)
  forgotten_table d = fun_ext (λ m. entry_map (forgotten d) s.asks m None refl)

  pub forgotten_kept : (d : ℕ) → IsDisplayed (record s { asks = map (forgotten d) s.asks })
  forgotten_kept d = record {
    tree = old.tree;
    number = old.number;
    boot = old.boot;
    one_boot = old.one_boot;
    views = old.views;
    named = old.named;
    echoes = old.echoes;
    asks = length-map s.asks (forgotten d) ∙ old.asks;
    sound = rw (forgotten_table d) (answered_sound s.tree s.number (display_of s) old.sound d);
  }

  pub forgotten_is : (d : ℕ) → display_of (record s { asks = map (forgotten d) s.asks })
      ≡ record (display_of s) { asks = λ o. if has_asked (display_of s) d o then None else (display_of s).asks o }
  forgotten_is d = rw (forgotten_table d) refl

-- what is accepted is the last that was shown
shown_after : (s : Display) (t : Shown) (a : Acceptance)
    → record s { shown = last_after s.shown a t } ≡ (showed_if s t a).display
shown_after s t Accepted = refl
shown_after s t OtherBoot = refl
shown_after s t NotNewer = refl

pub told_is : (h : Hierarchy) (number boot : ℕ) (s : Display) (from echo : ℕ) (t : Shown) → echo ≡ boot
    → is_watched h number s t.object ≡ true
    → record s { shown = last_after s.shown (acceptance boot (s.shown t.object) echo t.version) t }
    ≡ (state_comes h number boot s from echo t).display
told_is h number boot s from echo t same is =
    rw (eq-eqb echo boot same, is) (shown_after s t
    (if is_newer_than_last (s.shown t.object) t.version then Accepted else NotNewer))

-- What is newly shown can be told.

module _ (s : Displayed) (now : IsDisplayed s) (old : ℕ → Option Condition) where
  pub change_shown : (boot x : ℕ) → boot ≡ s.published.boot
      → IfSome (change_at boot old (conditions_of s.published) x) (IsShown s.tree)
  change_shown boot x same =
      choose (λ o. IfSome o (IsShown s.tree)) (differs (old x) (conditions_of s.published x))
      (shown_at boot (conditions_of s.published) x) None
      (λ t. display_shown s.tree now.tree s.number boot (display_of s) now.sound
      (subst (λ b. is_boot b ≡ true) (sym same) now.boot) x)
      (λ f. tt)

  pub changes_shown : (boot : ℕ) (xs : List ℕ) → boot ≡ s.published.boot
      → AllByRecursion (IsShown s.tree) (changes_at boot old (conditions_of s.published) xs)
  changes_shown boot xs same = passed_all s.tree now.tree s.number boot old (conditions_of s.published)
      (now.sound.own, now.sound.conditions) (subst (λ b. is_boot b ≡ true) (sym same) now.boot) xs
