-- The states of an object that are told rise up to what is had of it.
use Rattle.std.proofs.Common.{◌≡◌, ◌⊎◌, ℕ, ◌≤◌, ◌++◌, Bool, true, false, List, [], ◌∷◌, Option, Some, None, length}
use Rattle.std.proofs.Common.{◌≢◌, refl, sym, ap, subst, inl, inr, arith, append-nil, if◌then◌else◌}
use Rattle.std.specs.Prelude.{◌==◌}
use Rattle.std.proofs.lemmas.Bool.Decides.{nat_tests, eqb_tells}
use Rattle.smi_grant.specs.declared.state.Shown.{Shown}
use Rattle.smi_grant.specs.declared.state.Version.{Version}
use Rattle.smi_view.specs.Accepting.{is_newer}
use Rattle.smi_view.specs.Newest.{IsNotNewer, shown_after}
use Rattle.smi_view.specs.Noted.{Showed, TakesIn}
use Rattle.smi_view.specs.Pictured.{Pictured, object_of}
use Rattle.smi_view.specs.declared.sight.Sight.{Sight}
use Rattle.smi_session.specs.Service.{Records, RecordsState, ServiceState, is_new, is_newer_than}
use Rattle.smi_session.specs.StationEvent.{AreInOrder, RiseUpTo, versions_of}
use Rattle.smi_session.specs.declared.station_event.ActionDone.{ActionDone}
use Rattle.smi_session.specs.declared.station_event.StationEvent.{StationEvent}
use Rattle.smi_session.specs.declared.station_event.StationEvent.TheVariants as event

-- newer than something newer
newer_passes : (v w x : Version) → is_newer x w ≡ true → IsNotNewer v w → IsNotNewer v x
newer_passes v w x newer h = grind (arith, nat_tests)

newer_than : (v w x : Version) → is_newer x w ≡ true → IsNotNewer v w → is_newer x v ≡ true
newer_than v w x newer h = grind (arith, nat_tests)

-- what is had has become newer
still : (vs : List Version) (had : Option Sight) (s : Shown) → is_newer_than had s ≡ true → RiseUpTo vs had
    → RiseUpTo vs (shown_after had s 0)
still [] had s new h = tt
still (v ∷ []) None s new h = absurd h
still (v ∷ []) (Some seen) s new h = rw new (newer_passes v seen.shown.version s.version new h)
still (v ∷ w ∷ more) had s new h = (h.0, still (w ∷ more) had s new h.1)

-- and it is told too
told : (vs : List Version) (had : Option Sight) (s : Shown) → is_newer_than had s ≡ true → RiseUpTo vs had
    → RiseUpTo (vs ++ s.version ∷ []) (shown_after had s 0)
told [] None s new h = inr (refl, omega arith)
told [] (Some seen) s new h = rw new (inr (refl, omega arith))
told (v ∷ []) None s new h = absurd h
told (v ∷ []) (Some seen) s new h =
    (newer_than v seen.shown.version s.version new h, rw new (inr (refl, omega arith)))
told (v ∷ w ∷ more) had s new h = (h.0, told (w ∷ more) had s new h.1)

-- the versions of one event more
versions_append : (o : ℕ) (es more : List StationEvent)
    → versions_of o (es ++ more) ≡ versions_of o es ++ versions_of o more
versions_append o [] more = refl
versions_append o (event.StateChanged s ∷ es) more = by (s.object == o) (versions_append o es more)
  where
    by : (c : Bool) → versions_of o (es ++ more) ≡ versions_of o es ++ versions_of o more
        → (if c then s.version ∷ versions_of o (es ++ more) else versions_of o (es ++ more))
        ≡ (if c then s.version ∷ versions_of o es else versions_of o es) ++ versions_of o more
    by true e = ap (λ l. s.version ∷ l) e
    by false e = e
versions_append o (event.ActionDone done ∷ es) more = versions_append o es more
versions_append o (event.Lagged count ∷ es) more = versions_append o es more

-- what is had of an object, once a state is shown: of this object, or of another
had_of : (p q : Pictured) (s : Shown) (o : ℕ) → TakesIn (Showed s 0 ∷ []) p q → 1 ≤ o → o ≤ length p.objects
    → object_of q o ≡ (if o == s.object then shown_after (object_of p o) s 0 else object_of p o)
had_of p q s o takes from to = takes.objects o from to

-- a state that is new, with its event or without it
new_state : (p q : Pictured) (es : List StationEvent) (s : Shown) → is_new p s ≡ true → TakesIn (Showed s 0 ∷ []) p q
    → AreInOrder p es → AreInOrder q (es ++ event.StateChanged s ∷ [])
new_state p q es s new takes h o from to =
    let within : o ≤ length p.objects = rw (← takes.object_count) to in
    by (eqb_tells o s.object) within
  where
    by : (((o == s.object) ≡ true) × (o ≡ s.object)) ⊎ (((o == s.object) ≡ false) × (o ≢ s.object))
        → o ≤ length p.objects
        → RiseUpTo (versions_of o (es ++ event.StateChanged s ∷ [])) (object_of q o)
    by (inl e) within =
        let own : (s.object == o) ≡ true = grind (arith, nat_tests, e.1) in
        let new_here : is_newer_than (object_of p o) s ≡ true = rw e.1 new in
        rw (versions_append o es (event.StateChanged s ∷ []), had_of p q s o takes from within, e.0, own)
        (told (versions_of o es) (object_of p o) s new_here (h o from within))
    by (inr e) within =
        let other : (s.object == o) ≡ false = grind (arith, nat_tests, e.1) in
        rw (
          versions_append o es (event.StateChanged s ∷ []),
          had_of p q s o takes from within,
          e.0,
          other,
          append-nil (versions_of o es),
        ) (h o from within)

pub lost_state : (p q : Pictured) (es : List StationEvent) (s : Shown) → is_new p s ≡ true
    → TakesIn (Showed s 0 ∷ []) p q → AreInOrder p es → AreInOrder q es
lost_state p q es s new takes h o from to =
    let within : o ≤ length p.objects = rw (← takes.object_count) to in
    by (eqb_tells o s.object) within
  where
    by : (((o == s.object) ≡ true) × (o ≡ s.object)) ⊎ (((o == s.object) ≡ false) × (o ≢ s.object))
        → o ≤ length p.objects → RiseUpTo (versions_of o es) (object_of q o)
    by (inl e) within =
        let new_here : is_newer_than (object_of p o) s ≡ true = rw e.1 new in
        rw (had_of p q s o takes from within, e.0)
        (still (versions_of o es) (object_of p o) s new_here (h o from within))
    by (inr e) within = rw (had_of p q s o takes from within, e.0) (h o from within)

pub state_recorded : (p q : Pictured) (es : List StationEvent) (s : Shown) → is_new p s ≡ true
    → TakesIn (Showed s 0 ∷ []) p q → AreInOrder p es → AreInOrder q (es ++ event.StateChanged s ∷ [])
state_recorded = new_state

-- an event that is no state
other_event : (p : Pictured) (es : List StationEvent) (e : StationEvent) → ((o : ℕ) → versions_of o (e ∷ []) ≡ [])
    → AreInOrder p es → AreInOrder p (es ++ e ∷ [])
other_event p es e none h o from to =
    rw (versions_append o es (e ∷ []), none o, append-nil (versions_of o es)) (h o from to)

pub action_recorded : (p : Pictured) (es : List StationEvent) (done : ActionDone) → AreInOrder p es
    → AreInOrder p (es ++ event.ActionDone done ∷ [])
action_recorded p es done = other_event p es (event.ActionDone done) (λ o. refl)

pub lag_recorded : (p : Pictured) (es : List StationEvent) (count : ℕ) → AreInOrder p es
    → AreInOrder p (es ++ event.Lagged count ∷ [])
lag_recorded p es count = other_event p es (event.Lagged count) (λ o. refl)

-- nothing is told
pub nothing_told : (p : Pictured) → AreInOrder p []
nothing_told p o from to = tt

state_by : (c : Bool) (s : Shown) (a b : ServiceState) → is_new a.picture s ≡ c → AreInOrder a.picture a.events
    → RecordsState c s a b → AreInOrder b.picture b.events
state_by false s a b new h is = subst (λ (x : ServiceState). AreInOrder x.picture x.events) (sym is) h
state_by true s a b new h (takes, is) =
    let events : b.events ≡ a.events ++ event.StateChanged s ∷ [] = ap (λ (x : ServiceState). x.events) is in
    rw events (new_state a.picture b.picture a.events s new takes h)

pub records_rise : (e : StationEvent) (a b : ServiceState) → AreInOrder a.picture a.events → Records e a b
    → AreInOrder b.picture b.events
records_rise (event.StateChanged s) a b h is = state_by (is_new a.picture s) s a b refl h is
records_rise (event.ActionDone done) a b h is =
    subst (λ (x : ServiceState). AreInOrder x.picture x.events) (sym is) (action_recorded a.picture a.events done h)
records_rise (event.Lagged count) a b h is =
    subst (λ (x : ServiceState). AreInOrder x.picture x.events) (sym is) (lag_recorded a.picture a.events count h)
