-- A holder's request is sent by ticks, and reaches the keeper, who does not refuse it.
use Rattle.std.proofs.Common.{ℕ, zero, suc, ◌≡◌, ◌≤◌, ◌+◌, Bool, true, false, List, [], ◌∷◌, inl, inr, refl, sym, ap}
use Rattle.std.proofs.Common.{◌∙◌}
use Rattle.std.proofs.Common.{subst, arith}
use Rattle.std.specs.Prelude.{◌==◌, ◌*◌, ◌/◌, ◌&&◌, not, length, replicate, slice_get, Option, Some, None}
use Rattle.std.specs.Prelude.{option_map, unwrap_or}
use Rattle.std.specs.Prelude.{if◌then◌else◌}
use Rattle.std.specs.List.{AllByRecursion}
use Rattle.std.proofs.lemmas.Bool.{and_from, and_parts}
use Rattle.smi_grant.specs.declared.Command.{Command}
use Rattle.smi_grant.specs.declared.Holder.{Holder}
use Rattle.smi_grant.specs.declared.Holder.TheVariants.{Free, Operator, Domain}
use Rattle.smi_base.specs.Between.{is_between}
use Rattle.smi_message.specs.Message.{Message}
use Rattle.smi_tree.specs.declared.row.Domain.{Domain as DomainRow}
use Rattle.smi_tree.specs.Hierarchy.{Hierarchy}
use Rattle.smi_tree.specs.Lawful.{IsTree, IsBetween}
use Rattle.smi_tree.specs.Lookups.{domain_count, operator_station_of, station_count}
use Rattle.smi_command.specs.declared.Due.{Due}
use Rattle.smi_command.specs.declared.Due.TheVariants.{Take, Drop, Run}
use Rattle.smi_command.specs.declared.Link.{Link}
use Rattle.smi_command.specs.declared.Link.TheVariants.{Held}
use Rattle.smi_command.specs.Link.{due_of}
use Rattle.smi_command.specs.Pending.{most_pending}
use Rattle.smi_command.proofs.Waiting.{due_waits}
use Rattle.smi_tree.specs.Roles.{has_domain, holder_station, is_command_of, is_holder_of, is_keeper, is_number}
use Rattle.smi_protocol.proofs.Ranges.{between, home_there, is_within, kept_there, row_there}
use Rattle.smi_protocol.proofs.Tables.{number_is, number_self}
use Rattle.smi_protocol.specs.Display.{Station}
use Rattle.smi_protocol.specs.Grants.{Grants}
use Rattle.smi_protocol.specs.GrantsOf.{grant_step}
use Rattle.smi_protocol.specs.Happening.{Comes}
use Rattle.smi_protocol.specs.Messages.{home, request, requests}
use Rattle.smi_protocol.specs.Refusals.{is_body_of, refusal_of_message}
use Rattle.smi_protocol.specs.Schedule.{World}
use Rattle.smi_protocol.specs.Ticking.{all_owed, most_sent}
use Rattle.smi_protocol.specs.Sound.{IsCommand, IsLink, IsSound, most_handed_on}
use Rattle.smi_law.specs.Known.{holder_home}
use Rattle.smi_law.specs.World.{Among as IsSent}
use Rattle.smi_law.specs.Bound.{most_owed, most_ticks, round}
use Rattle.smi_law.specs.Rest.{IsStation, led}
use Rattle.smi_law.proofs.Deliveries.{Delivered, deliver_way}
use Rattle.smi_law.proofs.OwedCount.{owed_most}
use Rattle.smi_law.proofs.Owing.{due_owed, owed_ascends, owed_begins}
use Rattle.smi_law.proofs.Placed.{has_place}
use Rattle.smi_law.proofs.Sounds.{all_sound}
use Rattle.smi_law.proofs.Ticks.{Alike, tick, ticks_fit, ticks_send}
use Rattle.smi_law.proofs.Ways.{Fine, IsReady, Way, go_on, led_reached, no_longer}

-- Who is where.

-- the station of a domain of the tree keeps it
pub home_keeps : (h : Hierarchy) → IsTree h → (d : ℕ) → IsBetween 1 (domain_count h) d
    → is_keeper h (home h d) d ≡ true
home_keeps h tree d within =
    let r = row_there h.domains d
    (record { least = within.least; most = omega (arith, within.most, tree.lawful.domains.rows) }) in
    subst (λ (o : Option DomainRow). is_number (option_map (λ (row : DomainRow). row.station) o)
    (unwrap_or (option_map (λ (row : DomainRow). row.station) o) 0) ≡ true) (sym r.1) (number_self r.0.station)

pub is_station : (h : Hierarchy) (number : ℕ) → IsBetween 1 (station_count h) number → IsStation h number
is_station h number b = between 1 (station_count h) number b.least b.most

-- what has a place: its domain, its holder, and the holder's station
pub record IsPlaced (h : Hierarchy) (number d : ℕ) (who : Holder) : Type 0 where
  pub within : IsBetween 1 (domain_count h) d
  pub holder : is_holder_of h d who ≡ true
  pub station : is_number (holder_station h who) number ≡ true
  pub at : holder_home h who ≡ number
  pub there : IsStation h number

pub is_placed : (h : Hierarchy) → IsTree h → (number d : ℕ) (who : Holder) → has_place h number d who ≡ true
    → IsPlaced h number d who
is_placed h tree number d who here =
    let a = and_parts (has_domain h d) _ here in
    let b = and_parts (is_holder_of h d who) _ a.1 in
    record {
      within = is_within 1 (domain_count h) d a.0;
      holder = b.0;
      station = b.1;
      at = ap (λ o. unwrap_or o 0) (number_is (holder_station h who) number b.1);
      there = is_station h number (station who b.1);
    }
  where
    station : (k : Holder) → is_number (holder_station h k) number ≡ true → IsBetween 1 (station_count h) number
    station Free t = absurd cc
    station (Operator o) t = tree.lawful.operators.each o number (number_is (operator_station_of h o) number t)
    station (Domain p) t = (kept_there h tree number p t).1

-- Requests are not refused.

each_there : (p : List Command) (i : ℕ) (c : Command) (P : Command → Type 0) → AllByRecursion P p
    → slice_get p i ≡ Some c → P c
each_there [] i c P all at = absurd (nothing i at)
  where
    nothing : (i : ℕ) → slice_get [] i ≡ Some c → ⊥
    nothing i at = cc
each_there (x ∷ p) zero c P all at = let same : x ≡ c = cc in subst P same all.0
each_there (x ∷ p) (suc i) c P all at = each_there p i c P all.1 at

-- the tree has what is named
abbrev pub IsNamed : Hierarchy → Due → Type 0
IsNamed h (Take s) = Unit {0}
IsNamed h (Drop e) = Unit {0}
IsNamed h (Run e n c) = is_command_of h c ≡ true

linked_named : (h : Hierarchy) (most : ℕ) (l : Link) (i : ℕ) (due : Due) → IsLink h most l → due_of l i ≡ Some due
    → IsNamed h due
linked_named h most l i (Take s) sound is = tt
linked_named h most l i (Drop e) sound is = tt
linked_named h most l i (Run e n c) sound is =
    let w = due_waits l i e n c is in
    let held : IsLink h most (Held e w.newest w.pending) = subst (IsLink h most) w.is sound in
    (each_there w.pending w.at c (IsCommand h) held.1.each w.command).known

due_named : (h : Hierarchy) (number : ℕ) (g : Grants) (who : Holder) (d : ℕ) (due : Due) → IsSound h g
    → is_holder_of h d who ≡ true → is_number (holder_station h who) number ≡ true
    → due_of (g.links who d) 0 ≡ Some due → IsNamed h due
due_named h number g Free d due sound holder here is = absurd (let wrong : false ≡ true = here in cc)
due_named h number g (Operator o) d due sound holder here is =
    linked_named h most_pending (g.links (Operator o) d) 0 due (sound.own o d) is
due_named h number g (Domain p) d due sound holder here is =
    linked_named h most_handed_on (g.links (Domain p) d) 0 due (sound.child p d) is

request_here : (h : Hierarchy) → IsTree h → (number d : ℕ) (who : Holder) (due : Due) → IsPlaced h number d who
    → IsNamed h due → is_body_of h number (home h d) (request d who due) ≡ true
request_here h tree number d who (Take s) p named = and_from _ _ (home_keeps h tree d p.within)
    (and_from _ _ p.holder p.station)
request_here h tree number d who (Drop e) p named = and_from _ _ (home_keeps h tree d p.within)
    (and_from _ _ p.holder p.station)
request_here h tree number d who (Run e n c) p named = and_from _ _ (home_keeps h tree d p.within)
    (and_from _ _ (and_from _ _ p.holder p.station) named)

-- a datagram of the tree to the station that names what is there
pub not_refused : (h : Hierarchy) (m : Message) → m.tree ≡ h.number → IsStation h m.from
    → is_body_of h m.from m.to m.body ≡ true → refusal_of_message h m.to m ≡ None
not_refused h m tree from named =
    ap (λ b. if not b then Some 7 else (if not (m.to == m.to) then Some 8
    else (if is_between 1 (station_count h) m.from && is_body_of h m.from m.to m.body then None else Some 9)))
    (ap (λ z. z == h.number) tree ∙ number_self h.number)
    ∙ ap (λ b. if not b then Some 8
    else (if is_between 1 (station_count h) m.from && is_body_of h m.from m.to m.body then None else Some 9))
    (number_self m.to)
    ∙ ap (λ b. if b then None else Some 9) (and_from _ _ from named)

-- The request comes.

alike_ready : (starts : Bool) (n : ℕ) (w v : World) (k : ℕ) → Alike w v → IsReady starts n (w.stations k)
    → IsReady starts n (v.stations k)
alike_ready starts n w v k a r = record {
  runs = a.runs k r.runs;
  lasts = elim r.lasts [
    | inl room ↦ inl (λ x c is. room x c (ap (λ z. z x) (sym (a.conditions k)) ∙ is))
    | inr boots ↦ inr (boots.0, λ last. boots.1 (ap (λ (z : Grants). z.boot) (sym (a.grants k)) ∙ last))
  ];
}

alike_delivered : (h : Hierarchy) (w v u : World) (m : Message) → Alike w v → Delivered h v m u → Delivered h w m u
alike_delivered h w v u m a d = record {
  records = subst (λ g. (u.stations m.to).grants.records ≡ (grant_step h m.to g (Comes m)).grants.records)
      (a.grants m.to) d.records;
  links = subst (λ g. (u.stations m.to).grants.links ≡ (grant_step h m.to g (Comes m)).grants.links)
      (a.grants m.to) d.links;
  others = λ n other. d.others n other ∙ a.grants n;
  sent = λ k i. d.sent k (a.sent k i);
  reply = λ k more is. d.reply k more (ap (λ g. (grant_step h m.to g (Comes m)).sends) (a.grants m.to) ∙ is);
}

replicated : (n : ℕ) (number : ℕ) → length (replicate n (tick number)) ≡ n
replicated zero number = refl
replicated (suc n) number = let l = replicated n number in omega (arith, l)

module _ (starts : Bool) (h : Hierarchy) (tree : IsTree h) (n : ℕ) (w : World) (fine : Fine starts h (n + 2) w)
    (number d : ℕ) (who : Holder) (due : Due) (place : has_place h number d who ≡ true)
    (is : due_of ((w.stations number).grants.links who d) 0 ≡ Some due) where
  abbrev s : Station
  s = w.stations number

  abbrev m : Message
  m = requests h number who d due

  placed : IsPlaced h number d who
  placed = is_placed h tree number d who place

  sound : IsSound h s.grants
  sound = (all_sound h tree fine.past w fine.run).sound number

  -- this many ticks send all of it
  in_time : length (all_owed h number s.grants s.display) ≤ most_sent * (most_owed h / most_sent + 1)
  in_time = let most = owed_most h number s.grants s.display sound tree in omega (arith, most)

  -- the request has been sent
  abbrev IsSaid : World → Type 0
  IsSaid v = Fine starts h (n + 2) v × Alike w v × IsSent m v.sent

  said_way : Way starts h w (most_ticks h) IsSaid
  said_way =
      let owed = due_owed h number s.grants s.display who d due place is in
      let ticks = ticks_send h number s (owed_ascends h number s.grants s.display sound)
      (owed_begins h number s.grants s.display)
      (fine.ready number placed.there).runs (most_owed h / most_sent + 1) in_time
      owed.owing w refl owed.among owed.low in
      let reached = led_reached h tree (replicate ticks.count (tick number)) fine.past w fine.run in
      record {
        items = replicate ticks.count (tick number);
        each = ticks_fit starts h number placed.there ticks.count w;
        short = let a = ticks.few in let c = replicated ticks.count number in omega (arith, a, c);
        there = (
          record {
            small = fine.small;
            past = reached.past;
            run = reached.run;
            ready = λ k there. alike_ready starts (n + 2) w _ k ticks.alike (fine.ready k there);
          },
          ticks.alike,
          subst (λ z. IsSent z (led h w (replicate ticks.count (tick number))).sent) owed.message ticks.sends,
        );
      }

  pub ask_way : Way starts h w (round h) (λ v. Fine starts h n v × Delivered h w m v)
  ask_way =
      go_on starts h w (most_ticks h) 2 IsSaid (λ v. Fine starts h n v × Delivered h w m v) said_way
      (λ v said.
      let way = deliver_way starts h tree n v m said.0 said.2
      (is_station h (home h d) (home_there h tree d placed.within))
      (not_refused h m refl placed.there
      (request_here h tree number d who due placed (due_named h number s.grants who d due sound placed.holder
      placed.station is))) in
      no_longer starts h v 2 2 (λ u. Fine starts h n u × Delivered h v m u) (λ u. Fine starts h n u
      × Delivered h w m u)
      (omega arith) (λ u there. (there.0, alike_delivered h w v u m said.1 there.1)) way)
