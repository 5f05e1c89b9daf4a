-- A record that was told comes until it is no news to anybody at the station.
use Rattle.std.proofs.Common.{ℕ, zero, suc, ◌≡◌, ◌<◌, ◌≤◌, ◌+◌, Bool, true, false, List, [], ◌∷◌, inl, inr, refl, sym}
use Rattle.std.proofs.Common.{ap}
use Rattle.std.proofs.Common.{◌∙◌, subst, arith}
use Rattle.std.specs.Prelude.{◌&&◌, filter, find, length, map, not, unwrap_or, Option, Some, None, if◌then◌else◌}
use Rattle.std.proofs.lemmas.Bool.{and_from}
use Rattle.smi_grant.specs.declared.Holder.{Holder}
use Rattle.smi_grant.specs.declared.Holder.TheVariants.{Free, Operator, Domain}
use Rattle.smi_grant.specs.Holder.{is_free}
use Rattle.smi_grant.specs.Record.{Standing}
use Rattle.smi_message.specs.Message.{Message}
use Rattle.smi_tree.specs.Hierarchy.{Hierarchy}
use Rattle.smi_tree.specs.Lawful.{IsTree, IsBetween}
use Rattle.smi_tree.specs.Lookups.{domain_count, operator_station_of, operators_of, parent_of, station_of}
use Rattle.smi_command.specs.declared.Link.{Link}
use Rattle.smi_command.specs.Hearing.{told_heard, told_link}
use Rattle.smi_command.proofs.Facts.{LinkOk}
use Rattle.smi_grant.proofs.Holders.{either, told_apart}
use Rattle.smi_tree.specs.Roles.{is_holder_of, is_keeper}
use Rattle.smi_protocol.proofs.Lists.{In, from_mapped, in_both}
use Rattle.smi_protocol.proofs.Ranges.{home_there}
use Rattle.smi_protocol.proofs.SoundSteps.{found, listening_parent}
use Rattle.smi_protocol.proofs.Tables.{apart, at_put, at_put_link, number_is, put_link_here}
use Rattle.smi_protocol.specs.Grants.{Grants, put_link}
use Rattle.smi_protocol.specs.GrantsOf.{grant_step}
use Rattle.smi_protocol.specs.Happening.{Comes}
use Rattle.smi_protocol.specs.Hearing.{ended, ended_record, ends, hears, is_ahead, is_heard, listener, listeners}
use Rattle.smi_protocol.specs.Hearing.{parent_heard, parent_here, told_to}
use Rattle.smi_protocol.specs.Messages.{home, tells}
use Rattle.smi_protocol.specs.Schedule.{World}
use Rattle.smi_law.specs.Known.{holder_home, link_in, record_in}
use Rattle.smi_law.specs.World.{Among as IsSent}
use Rattle.smi_law.proofs.Parents.{parents_are_lower}
use Rattle.smi_law.proofs.Viewed.{view_fits, viewed}
use Rattle.smi_law.specs.Rest.{IsStation}
use Rattle.smi_law.proofs.RestLists.{in_kept, one_fewer, some_there}
use Rattle.smi_law.proofs.Asked.{link_there, record_there}
use Rattle.smi_law.proofs.Asking.{home_keeps, is_station, not_refused}
use Rattle.smi_law.proofs.Deliveries.{Delivered, deliver_way}
use Rattle.smi_law.proofs.Placed.{listening_domain, listening_operator}
use Rattle.smi_law.proofs.Sounds.{all_sound}
use Rattle.smi_law.proofs.Unheard.{heard_once}
use Rattle.smi_law.proofs.Ways.{Fine, Way, go_on, less_fine, no_longer, stay}

-- the same grant, with the same last command
pub record SameGrant (r s : Standing) : Type 0 where
  pub epoch : s.epoch ≡ r.epoch
  pub holder : s.holder ≡ r.holder
  pub last : s.last ≡ r.last

pub same_grant : (r s : Standing) → s ≡ r → SameGrant r s
same_grant r s is = record {
  epoch = ap (λ (z : Standing). z.epoch) is;
  holder = ap (λ (z : Standing). z.holder) is;
  last = ap (λ (z : Standing). z.last) is;
}

pub grant_on : (r s t : Standing) → SameGrant r s → SameGrant s t → SameGrant r t
grant_on r s t a b = record { epoch = b.epoch ∙ a.epoch; holder = b.holder ∙ a.holder; last = b.last ∙ a.last }

-- a link that is told the record, this many times
pub data Told (me : Holder) (r : Standing) (l : Link) : Link → Type 0 where
  stays : Told me r l l
  hears_it : (k : Link) → Told me r l k → Told me r l (told_link k me r)

told_on : (me : Holder) (r : Standing) (l k j : Link) → Told me r l k → Told me r k j → Told me r l j
told_on me r l k j a stays = a
told_on me r l k j a (hears_it i b) = hears_it i (told_on me r l k i a b)

-- what every telling keeps
pub told_keeps : (P : Link → Type 0) (me : Holder) (r : Standing) → ((l : Link) → P l → P (told_link l me r))
    → (l k : Link) → Told me r l k → P l → P k
told_keeps P me r keeps l k stays p = p
told_keeps P me r keeps l k (hears_it j t) p = keeps j (told_keeps P me r keeps l j t p)

-- At the station.

-- one link has heard, and a command above it may have ended
record HearsOne (g k : Grants) (who : Holder) (d : ℕ) (r : Standing) : Type 0 where
  links : (me : Holder) (x : ℕ) → k.links me x ≡ put_link g.links who d (told_link (g.links who d) who r) me x
  records : (y : ℕ) → SameGrant (g.records y) (k.records y)
  same : k.records d ≡ g.records d

ended_records : (b : Bool) (on : Grants) (p y : ℕ) → SameGrant (on.records y) ((ended b on p).records y)
ended_records false on p y = same_grant (on.records y) (on.records y) refl
ended_records true on p y =
    at_put (λ z. SameGrant (on.records y) z) on.records p (ended_record on p) y
    (λ is. subst (λ z. SameGrant (on.records z) (ended_record on p)) (sym is)
    (record { epoch = refl; holder = refl; last = refl }))
    (same_grant (on.records y) (on.records y) refl)

ended_other : (b : Bool) (on : Grants) (p d : ℕ) → (d ≡ p → ⊥) → (ended b on p).records d ≡ on.records d
ended_other false on p d other = refl
ended_other true on p d other = at_put (λ z. z ≡ on.records d) on.records p (ended_record on p) d (λ is. absurd
    (other is)) refl

pub ended_links : (b : Bool) (on : Grants) (p : ℕ) (me : Holder) (x : ℕ) → (ended b on p).links me x ≡ on.links me x
ended_links true on p me x = refl
ended_links false on p me x = refl

nobody_listens : (h : Hierarchy) (number d : ℕ) → In Free (listeners h number d) → ⊥
nobody_listens h number d i =
    elim (in_both Free (map Operator (operators_of h number)) (parent_here h number (parent_of h d)) i) [
      | inl j ↦ let m = from_mapped Operator Free (operators_of h number) j in
          let wrong : Free ≡ Operator m.0 = m.2 in cc
      | inr j ↦ above (parent_of h d) j
    ]
  where
    above : (o : Option ℕ) → In Free (parent_here h number o) → ⊥
    above None j = j
    above (Some q) j = kept (is_keeper h number q) j
      where
        kept : (b : Bool) → In Free (if b then Domain q ∷ [] else []) → ⊥
        kept true (inl is) = cc
        kept true (inr k) = k
        kept false k = k

heard_one : (h : Hierarchy) → IsTree h → (number : ℕ) (g : Grants) (d : ℕ) (r : Standing) (who : Holder)
    → In who (listeners h number d) → HearsOne g (told_to h number g d r (Some who)).grants who d r
heard_one h tree number g d r Free at = absurd (nobody_listens h number d at)
heard_one h tree number g d r (Operator o) at = record {
  links = λ me x. refl;
  records = λ y. same_grant (g.records y) (g.records y) refl;
  same = refl;
}
heard_one h tree number g d r (Domain p) at =
    let on = parent_heard g p d r in
    record {
      links = λ me x. ended_links (ends h on p) on p me x;
      records = λ y. ended_records (ends h on p) on p y;
      same = ended_other (ends h on p) on p d
          (λ is. let less = parents_are_lower h tree d p (number_is (parent_of h d) p
          (listening_parent h number d p at)) in
          omega (arith, is, less));
    }

-- each holder that listens at a station is there
pub listens_here : (h : Hierarchy) (number d : ℕ) (who : Holder) → In who (listeners h number d)
    → (is_free who ≡ false) × (holder_home h who ≡ number)
listens_here h number d Free at = absurd (nobody_listens h number d at)
listens_here h number d (Operator o) at =
    (refl, ap (λ z. unwrap_or z 0) (number_is (operator_station_of h o) number (listening_operator h number d o at)))
listens_here h number d (Domain p) at =
    (refl, ap (λ z. unwrap_or z 0) (number_is (station_of h p) number (listening_domain h number d p at)))

-- In the world.

-- what is told is heard by whom it is news, and is news to nobody any more
pub record Heard (h : Hierarchy) (w : World) (number d : ℕ) (r : Standing) (v : World) : Type 0 where
  pub record_ : record_in h v d ≡ record_in h w d
  pub records : (y : ℕ) → SameGrant (record_in h w y) (record_in h v y)
  pub others : (me : Holder) (x : ℕ) → (x ≡ d → ⊥) → link_in h v me x ≡ link_in h w me x
  pub told : (me : Holder) → Told me r (link_in h w me d) (link_in h v me d)
  pub quiet : (me : Holder) → In me (listeners h number d) → hears (link_in h v me d) me r ≡ false
  pub sent : (m : Message) → IsSent m w.sent → IsSent m v.sent

-- one has heard
record HeardBy (h : Hierarchy) (w : World) (who : Holder) (d : ℕ) (r : Standing) (v : World) : Type 0 where
  record_ : record_in h v d ≡ record_in h w d
  records : (y : ℕ) → SameGrant (record_in h w y) (record_in h v y)
  told : link_in h v who d ≡ told_link (link_in h w who d) who r
  others : (me : Holder) (x : ℕ) → (x ≡ d → me ≡ who → ⊥) → link_in h v me x ≡ link_in h w me x
  sent : (m : Message) → IsSent m w.sent → IsSent m v.sent

tell_hears : (h : Hierarchy) → IsTree h → (number d : ℕ) (r : Standing) (w v : World) (who : Holder)
    → In who (listeners h number d) → listener h number (w.stations number).grants d r ≡ Some who
    → Delivered h w (tells h (home h d) number d r) v → HeardBy h w who d r v
tell_hears h tree number d r w v who at is came =
    let m : Message = tells h (home h d) number d r in
    let g : Grants = (w.stations number).grants in
    let one : HearsOne g (grant_step h number g (Comes m)).grants who d r =
    subst (λ o. HearsOne g (told_to h number g d r o).grants who d r) (sym is)
    (heard_one h tree number g d r who at) in
    let home_of : holder_home h who ≡ number = (listens_here h number d who at).1 in
    record {
      record_ = record_there h w m v came d one.same;
      records = λ y. elim (apart (home h y) number) [
        | inl here ↦ subst (λ z. SameGrant ((w.stations z).grants.records y) ((v.stations z).grants.records y))
            (sym here)
            (subst (λ z. SameGrant (g.records y) z) (sym (ap (λ z. z y) came.records)) (one.records y))
        | inr other ↦ same_grant (record_in h w y) (record_in h v y)
            (ap (λ (z : Grants). z.records y) (came.others (home h y) other))
      ];
      told = ap (λ z. (v.stations z).grants.links who d) home_of ∙ ap (λ z. z who d) came.links ∙ one.links who d
          ∙ put_link_here g.links who d (told_link (g.links who d) who r)
          ∙ ap (λ z. told_link ((w.stations z).grants.links who d) who r) (sym home_of);
      others = λ me x other. link_there h w m v came me x
          (one.links me x ∙ at_put_link (λ z. z ≡ g.links me x) g.links who d (told_link (g.links who d) who r) me x
          (λ i j. absurd (other i j)) refl);
      sent = came.sent;
    }

-- one more has heard before
heard_after : (h : Hierarchy) (w v u : World) (number d : ℕ) (r : Standing) (who : Holder) → HeardBy h w who d r v
    → Heard h v number d r u → Heard h w number d r u
heard_after h w v u number d r who a b = record {
  record_ = b.record_ ∙ a.record_;
  records = λ y. grant_on (record_in h w y) (record_in h v y) (record_in h u y) (a.records y) (b.records y);
  others = λ me x other. b.others me x other ∙ a.others me x (λ i j. other i);
  told = λ me. told_on me r (link_in h w me d) (link_in h v me d) (link_in h u me d) (first me) (b.told me);
  quiet = b.quiet;
  sent = λ m i. b.sent m (a.sent m i);
}
  where
    first : (me : Holder) → Told me r (link_in h w me d) (link_in h v me d)
    first me = elim (told_apart me who) [
      | inl same ↦ subst (λ z. Told z r (link_in h w z d) (link_in h v z d)) (sym same.1)
          (subst (Told who r (link_in h w who d)) (sym a.told) (hears_it (link_in h w who d) stays))
      | inr other ↦ subst (Told me r (link_in h w me d)) (sym (a.others me d (λ i j. other.1 j))) stays
    ]

-- what is no news is not heard
pub unheard_hears : (l : Link) (who : Holder) (r : Standing) → is_heard (told_heard l who r) ≡ false
    → hears l who r ≡ false
unheard_hears l Free r f = f
unheard_hears l (Operator o) r f = f
unheard_hears l (Domain p) r f = ap (λ b. b && not (is_ahead l r)) f

-- nobody is found if nobody passes
not_found : {X : Type 0} (test : X → Bool) (xs : List X) → find test xs ≡ None → (x : X) → In x xs → test x ≡ false
not_found test [] none x i = absurd i
not_found {X = X} test (y ∷ xs) none x i = by (test y) refl none (λ n j. not_found test xs n x j) i
  where
    by : (b : Bool) → test y ≡ b → (if b then Some y else find test xs) ≡ None
        → (find test xs ≡ None → In x xs → test x ≡ false) → In x (y ∷ xs) → test x ≡ false
    by true t n rest j = absurd cc
    by false t n rest (inl same) = ap test same ∙ t
    by false t n rest (inr j) = rest n j

module _ (starts : Bool) (h : Hierarchy) (tree : IsTree h) (number d : ℕ) (here : IsStation h number)
    (within : IsBetween 1 (domain_count h) d) (r : Standing) where
  abbrev m : Message
  m = tells h (home h d) number d r

  abbrev news : World → Holder → Bool
  news w me = hears ((w.stations number).grants.links me d) me r

  abbrev count : World → ℕ
  count w = length (filter (news w) (listeners h number d))

  -- the link of one who listens is at the station
  at_home : (w : World) (me : Holder) → In me (listeners h number d)
      → link_in h w me d ≡ (w.stations number).grants.links me d
  at_home w me at = ap (λ z. (w.stations z).grants.links me d) (listens_here h number d me at).1

  all_quiet : (n k : ℕ) (w : World) → Fine starts h (n + k) w
      → ((me : Holder) → In me (listeners h number d) → news w me ≡ false)
      → Way starts h w k (λ v. Fine starts h n v × Heard h w number d r v)
  all_quiet n k w fine none = stay starts h w k (λ v. Fine starts h n v × Heard h w number d r v) (
    less_fine starts h n (n + k) w (omega arith) fine,
    record {
      record_ = refl;
      records = λ y. same_grant (record_in h w y) (record_in h w y) refl;
      others = λ me x other. refl;
      told = λ me. stays;
      quiet = λ me at. ap (λ l. hears l me r) (at_home w me at) ∙ none me at;
      sent = λ k i. i;
    },
  )

  -- fewer listen for it
  fewer : (w v : World) (who : Holder) → HeardBy h w who d r v → In who (listeners h number d) → news w who ≡ true
      → LinkOk r who (link_in h w who d) → count v < count w
  fewer w v who a at heard ok =
      one_fewer (news v) (news w) who (listeners h number d)
      (λ me i t. elim (told_apart me who) [
        | inl same ↦ absurd (let wrong : false ≡ true = sym (ap (news v) same.1 ∙ over) ∙ t in cc)
        | inr other ↦ ap (λ l. hears l me r)
            (sym (at_home w me i) ∙ sym (a.others me d (λ x y. other.1 y)) ∙ at_home v me i) ∙ t
      ])
      at over heard
    where
      over : news v who ≡ false
      over = ap (λ l. hears l who r) (sym (at_home v who at) ∙ a.told)
          ∙ unheard_hears (told_link (link_in h w who d) who r) who r (heard_once (link_in h w who d) who r ok)

  pub hear_way : (k n : ℕ) (w : World) → Fine starts h (n + (k + k)) w → record_in h w d ≡ r → IsSent m w.sent
      → count w ≤ k → Way starts h w (k + k) (λ v. Fine starts h n v × Heard h w number d r v)
  hear_way zero n w fine now sent most =
      all_quiet n 0 w fine (λ me at. elim (either (news w me)) [
        | inl t ↦ let l = some_there me (filter (news w) (listeners h number d))
            (in_kept (news w) me (listeners h number d) at t) in absurd (omega (arith, l, most))
        | inr f ↦ f
      ])
  hear_way (suc k) n w fine now sent most = by (listener h number (w.stations number).grants d r) refl
      (λ v. hear_way k n v)
    where
      by : (o : Option Holder) → listener h number (w.stations number).grants d r ≡ o
          → ((v : World) → Fine starts h (n + (k + k)) v → record_in h v d ≡ r → IsSent m v.sent → count v ≤ k
          → Way starts h v (k + k) (λ u. Fine starts h n u × Heard h v number d r u))
          → Way starts h w (suc k + suc k) (λ u. Fine starts h n u × Heard h w number d r u)
      by None is on = all_quiet n (suc k + suc k) w fine (not_found (news w) (listeners h number d) is)
      by (Some who) is on =
          let f = found (news w) (listeners h number d) who is in
          let sound = all_sound h tree fine.past w fine.run in
          let party = (listens_here h number d who f.0).0 in
          let ok : LinkOk r who (link_in h w who d) = subst (λ z. LinkOk z who (link_in h w who d)) now
          (view_fits h w d who party ((viewed h fine.past w fine.run).each d who)).link in
          let kept = home_keeps h tree d within in
          let holder : is_holder_of h d r.holder ≡ true =
          subst (λ (z : Standing). is_holder_of h d z.holder ≡ true) now ((sound.sound (home h d)).holder d) in
          let way = deliver_way starts h tree (n + (k + k)) w m
          (less_fine starts h (n + (k + k) + 2) (n + (suc k + suc k)) w (omega arith) fine) sent here
          (not_refused h m refl (is_station h (home h d) (home_there h tree d within)) (and_from _ _ kept holder)) in
          no_longer starts h w (2 + (k + k)) (suc k + suc k) (λ u. Fine starts h n u × Heard h w number d r u)
          (λ u. Fine starts h n u × Heard h w number d r u) (omega arith) (λ u there. there)
          (go_on starts h w 2 (k + k) (λ v. Fine starts h (n + (k + k)) v × Delivered h w m v)
          (λ u. Fine starts h n u × Heard h w number d r u) way
          (λ v came.
          let a = tell_hears h tree number d r w v who f.0 is came.1 in
          let less = fewer w v who a f.0 f.1 ok in
          no_longer starts h v (k + k) (k + k) (λ u. Fine starts h n u × Heard h v number d r u)
          (λ u. Fine starts h n u × Heard h w number d r u) (omega arith)
          (λ u there. (there.0, heard_after h w v u number d r who a there.1))
          (on v came.0 (a.record_ ∙ now) (a.sent m sent) (omega (arith, less, most)))))
