-- A datagram that was sent comes, and its station stays in service or is started again.
use Rattle.std.proofs.Common.{ℕ, zero, suc, ◌≡◌, ◌≢◌, ◌<◌, ◌+◌, ◌-◌, Bool, true, false, List, [], ◌∷◌, inl, inr, refl}
use Rattle.std.proofs.Common.{sym, ap, ◌∙◌, subst, arith}
use Rattle.std.specs.Prelude.{◌==◌, ◌++◌, length, take, slice_get, Some, None, if◌then◌else◌}
use Rattle.std.proofs.lemmas.Bool.{eqb-true}
use Rattle.std.proofs.lemmas.Bool.Decides.{nat_tests}
use Rattle.smi_message.specs.Message.{Message, last_boot}
use Rattle.smi_publish.specs.Published.{last_sequence}
use Rattle.smi_tree.specs.Hierarchy.{Hierarchy}
use Rattle.smi_tree.specs.Lawful.{IsTree}
use Rattle.smi_grant.proofs.Holders.{either}
use Rattle.smi_protocol.proofs.Tables.{apart, at_put, put_here, put_there}
use Rattle.smi_protocol.specs.Display.{Station}
use Rattle.smi_protocol.specs.Grants.{Grants, put}
use Rattle.smi_protocol.specs.GrantsOf.{grant_step}
use Rattle.smi_protocol.specs.Happening.{Comes}
use Rattle.smi_protocol.specs.Opening.{opened, opening_entries}
use Rattle.smi_protocol.specs.Refusals.{refusal_of}
use Rattle.smi_protocol.specs.Schedule.{World, arrival, arrival_of, changed, delivery, done_by, nothing}
use Rattle.smi_protocol.specs.Schedule.{stepped, turn}
use Rattle.smi_protocol.specs.Step.{accepted, after, answered_or, notice}
use Rattle.smi_protocol.specs.Ticking.{most_sent}
use Rattle.smi_protocol.specs.declared.item.Deed.TheVariants as deed
use Rattle.smi_protocol.specs.declared.item.Item.{Item}
use Rattle.smi_protocol.specs.declared.item.Item.TheVariants as item
use Rattle.smi_law.specs.World.{Among as IsSent, Reaches}
use Rattle.smi_law.proofs.Silent.{step_silent}
use Rattle.smi_law.specs.Rest.{Fits, IsStation}
use Rattle.smi_law.proofs.Room.{first_room, lasts}
use Rattle.smi_law.proofs.Ticks.{sent_first, sent_second}
use Rattle.smi_law.proofs.Ways.{Fine, IsReady, Way, led_reached}

-- the datagram at this place in what was sent arrives
abbrev pub deliver : ℕ → Item
deliver i = item.Do (deed.Deliver (i + 1))

abbrev pub restart : ℕ → Item
restart number = item.Restart number

sent_place : (m : Message) (sent : List Message) → IsSent m sent
    → (i : ℕ) × (slice_get sent i ≡ Some m) × (i < length sent)
sent_place m [] a = absurd a
sent_place m (x ∷ sent) (inl same) = (zero, ap Some (sym same), omega arith)
sent_place m (x ∷ sent) (inr a) = let s = sent_place m sent a in let less = s.2 in (suc s.0, s.1, omega (arith, less))

-- What the items make of the world.

arrives_as : (h : Hierarchy) (w : World) (m : Message) (i : ℕ) → slice_get w.sent i ≡ Some m → IsStation h m.to
    → arrival_of h w (deed.Deliver (i + 1)) ≡ Some (arrival (Comes m) m.to)
arrives_as h w m i is here =
    ap (λ b. if b then None else delivery h (slice_get w.sent (i + 1 - 1))) (positive i)
    ∙ ap (λ k. delivery h (slice_get w.sent k)) (back i)
    ∙ ap (delivery h) is
    ∙ ap (λ b. if b then Some (arrival (Comes m) m.to) else None) here
  where
    positive : (n : ℕ) → (n + 1 == 0) ≡ false
    positive n = grind (arith, nat_tests)

    back : (n : ℕ) → n + 1 - 1 ≡ n
    back n = omega arith

-- the world after a datagram came that was not refused
abbrev come : Hierarchy → World → Message → World
come h w m = record {
  stations = put w.stations m.to (accepted h m.to (w.stations m.to) (Comes m)).station;
  sent = w.sent ++ (accepted h m.to (w.stations m.to) (Comes m)).out.datagrams;
}

comes_to : (h : Hierarchy) (w : World) (m : Message) (i : ℕ) → slice_get w.sent i ≡ Some m → IsStation h m.to
    → (w.stations m.to).is_stopped ≡ false → refusal_of h m.to (w.stations m.to).grants (Comes m) ≡ None
    → (turn h w (deliver i)).world ≡ come h w m
comes_to h w m i is here runs none =
    ap (λ o. (done_by h w o).world) (arrives_as h w m i is here)
    ∙ ap (λ b. (if b then nothing w else stepped w m.to (after h m.to (w.stations m.to) (Comes m))).world) runs
    ∙ ap (λ o. (stepped w m.to (answered_or h m.to (w.stations m.to) (Comes m) o)).world) none

-- the world after a station started again
abbrev pub start : Hierarchy → World → ℕ → Grants → World
start h w number g = record { stations = put w.stations number (opened h number g); sent = w.sent ++ [] }

not_last : (n : ℕ) → n ≢ last_boot → (n == last_boot) ≡ false
not_last n other = elim (either (n == last_boot)) [ inl t ↦ absurd (other (eqb-true n last_boot t)) | inr f ↦ f ]

pub starts_to : (h : Hierarchy) (w : World) (number : ℕ) → (w.stations number).grants.boot ≢ last_boot
    → (turn h w (restart number)).world ≡ start h w number (w.stations number).grants
starts_to h w number boots =
    ap (λ b. (if b then changed w number (record (w.stations number) { is_stopped = true }) [] []
    else changed w number (opened h number (w.stations number).grants)
    ([] ++ opening_entries h number (opened h number (w.stations number).grants)) []).world)
    (not_last (w.stations number).grants.boot boots)

-- What there is then.

-- a datagram has come: its station's records and links are as the step makes them, and its answer is sent
pub record Delivered (h : Hierarchy) (w : World) (m : Message) (v : World) : Type 0 where
  pub records : (v.stations m.to).grants.records
      ≡ (grant_step h m.to (w.stations m.to).grants (Comes m)).grants.records
  pub links : (v.stations m.to).grants.links ≡ (grant_step h m.to (w.stations m.to).grants (Comes m)).grants.links
  pub others : (n : ℕ) → (n ≡ m.to → ⊥) → (v.stations n).grants ≡ (w.stations n).grants
  pub sent : (k : Message) → IsSent k w.sent → IsSent k v.sent
  pub reply : (k : Message) (more : List Message)
      → (grant_step h m.to (w.stations m.to).grants (Comes m)).sends ≡ k ∷ more → IsSent k v.sent

-- what is said first is sent, whatever is said beside it
said_first : (k : Message) (xs ys zs more : List Message) → xs ≡ k ∷ more → IsSent k (take most_sent (xs ++ ys ++ zs))
said_first k xs ys zs more is = subst (λ z. IsSent k (take most_sent (z ++ ys ++ zs))) (sym is) (inl refl)

come_delivered : (h : Hierarchy) (w : World) (m : Message) → Delivered h w m (come h w m)
come_delivered h w m = record {
  records = ap (λ (z : Station). z.grants.records) (put_here w.stations m.to s);
  links = ap (λ (z : Station). z.grants.links) (put_here w.stations m.to s);
  others = λ n other. ap (λ (z : Station). z.grants) (put_there w.stations m.to s n other);
  sent = λ k i. sent_first k w.sent _ i;
  reply = λ k more is. sent_second k w.sent _ (said_first k (grant_step h m.to (w.stations m.to).grants
      (Comes m)).sends
      _ _ more is);
}
  where
    s : Station
    s = (accepted h m.to (w.stations m.to) (Comes m)).station

-- a start changes none of this
started_delivered : (h : Hierarchy) (w v : World) (m : Message) → Delivered h w m v
    → Delivered h w m (start h v m.to (v.stations m.to).grants)
started_delivered h w v m d = record {
  records = ap (λ (z : Station). z.grants.records) (put_here v.stations m.to s) ∙ d.records;
  links = ap (λ (z : Station). z.grants.links) (put_here v.stations m.to s) ∙ d.links;
  others = λ n other. ap (λ (z : Station). z.grants) (put_there v.stations m.to s n other) ∙ d.others n other;
  sent = λ k i. sent_first k v.sent [] (d.sent k i);
  reply = λ k more is. sent_first k v.sent [] (d.reply k more is);
}
  where
    s : Station
    s = opened h m.to (v.stations m.to).grants

-- Stations stay ready.

less_room : (n : ℕ) (s : Station) (starts : Bool) → IsReady starts (n + 2) s → IsReady starts n s
less_room n s starts r = record {
  runs = r.runs;
  lasts = elim r.lasts [ inl room ↦ inl (λ x c is. let l = room x c is in omega (arith, l)) | inr boots ↦ inr boots ];
}

-- one station is as it should be, and the others are unchanged
ready_with : (starts : Bool) (h : Hierarchy) (n : ℕ) (w : World) (number : ℕ) (s : Station)
    → ((k : ℕ) → IsStation h k → IsReady starts (n + 2) (w.stations k)) → IsReady starts n s
    → (k : ℕ) → IsStation h k → IsReady starts n (put w.stations number s k)
ready_with starts h n w number s ready here k there =
    at_put (IsReady starts n) w.stations number s k (λ e. here) (less_room n (w.stations k) starts (ready k there))

ready_again : (starts : Bool) (h : Hierarchy) (n : ℕ) (stations : ℕ → Station) (number : ℕ) (s t : Station)
    → ((k : ℕ) → IsStation h k → IsReady starts (n + 2) (stations k)) → IsReady starts n t
    → (k : ℕ) → IsStation h k → IsReady starts n (put (put stations number s) number t k)
ready_again starts h n stations number s t ready here k there = elim (apart k number) [
  | inl same ↦ subst (λ z. IsReady starts n (put (put stations number s) number t z)) (sym same)
      (subst (IsReady starts n) (sym (put_here (put stations number s) number t)) here)
  | inr other ↦ subst (IsReady starts n)
      (sym (put_there (put stations number s) number t k other ∙ put_there stations number s k other))
      (less_room n (stations k) starts (ready k there))
]

deliver_fits : (starts : Bool) (h : Hierarchy) (w : World) (i : ℕ) → i < length w.sent → Fits starts h w (deliver i)
deliver_fits true h w i less = (omega arith, omega (arith, less))
deliver_fits false h w i less = (omega arith, omega (arith, less))

-- A datagram that was sent may come, if it is not refused.
module _ (starts : Bool) (h : Hierarchy) (tree : IsTree h) (n : ℕ) (w : World) (m : Message)
    (fine : Fine starts h (n + 2) w) (sent : IsSent m w.sent) (here : IsStation h m.to)
    (none : refusal_of h m.to (w.stations m.to).grants (Comes m) ≡ None) where
  abbrev Goal : World → Type 0
  Goal v = Fine starts h n v × Delivered h w m v

  abbrev old : Station
  old = w.stations m.to

  abbrev new : Station
  new = (accepted h m.to old (Comes m)).station

  place : (i : ℕ) × (slice_get w.sent i ≡ Some m) × (i < length w.sent)
  place = sent_place m w.sent sent

  small : n < last_sequence
  small = let l = fine.small in omega (arith, l)

  there : (turn h w (deliver place.0)).world ≡ come h w m
  there = comes_to h w m place.0 place.1 here (fine.ready m.to here).runs none

  boot : new.grants.boot ≡ old.grants.boot
  boot = (step_silent h m.to old.grants (Comes m)).boot

  -- the station goes on
  once : IsReady starts n new → Way starts h w 2 Goal
  once ready = record {
    items = deliver place.0 ∷ [];
    each = (deliver_fits starts h w place.0 place.2, tt);
    short = omega arith;
    there = subst Goal (sym there)
        (let r = led_reached h tree (deliver place.0 ∷ []) fine.past w fine.run in (
          record {
            small = small;
            past = r.past;
            run = subst (Reaches h r.past) there r.run;
            ready = ready_with starts h n w m.to new fine.ready ready;
          },
          come_delivered h w m,
        ));
  }

  -- the station has stopped, and is started again
  twice : starts ≡ true → old.grants.boot ≢ last_boot → new.is_stopped ≡ true → Way starts h w 2 Goal
  twice may boots stopped = record {
    items = deliver place.0 ∷ restart m.to ∷ [];
    each = (
      deliver_fits starts h w place.0 place.2,
      (
        subst (λ b. Fits b h (turn h w (deliver place.0)).world (restart m.to)) (sym may) (
          here,
          ap (λ (z : World). (z.stations m.to).is_stopped) there
              ∙ ap (λ (z : Station). z.is_stopped) (put_here w.stations m.to new) ∙ stopped,
        ),
        tt,
      ),
    );
    short = omega arith;
    there = subst (λ z. Goal (turn h z (restart m.to)).world) (sym there)
        (subst Goal (sym on)
        (let r = led_reached h tree (deliver place.0 ∷ restart m.to ∷ []) fine.past w fine.run in (
          record {
            small = small;
            past = r.past;
            run = subst (Reaches h r.past) (ap (λ z. (turn h z (restart m.to)).world) there ∙ on) r.run;
            ready = ready_again starts h n w.stations m.to new (opened h m.to ((come h w m).stations m.to).grants)
                fine.ready (record { runs = refl; lasts = inl (first_room h m.to n small) });
          },
          started_delivered h w (come h w m) m (come_delivered h w m),
        )));
  }
    where
      on : (turn h (come h w m) (restart m.to)).world ≡ start h (come h w m) m.to ((come h w m).stations m.to).grants
      on = starts_to h (come h w m) m.to
          (subst (λ z. z ≢ last_boot) (sym (ap (λ (z : Station). z.grants.boot) (put_here w.stations m.to new)
          ∙ boot)) boots)

  pub deliver_way : Way starts h w 2 Goal
  deliver_way = elim (fine.ready m.to here).lasts [
    | inl room ↦
        let l = lasts h n old (grant_step h m.to old.grants (Comes m)).grants
        (notice h m.to old.grants old.display (Comes m)).display m room in
        once (record { runs = l.unspent; lasts = inl l.room })
    | inr boots ↦ elim (either new.is_stopped) [
      | inl stopped ↦ twice boots.0 boots.1 stopped
      | inr runs ↦ once (record {
        runs = runs;
        lasts = inr (boots.0, subst (λ z. z ≢ last_boot) (sym boot) boots.1);
      })
    ]
  ]
