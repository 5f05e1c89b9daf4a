-- A datagram at a station.
use Rattle.std.proofs.Common.{ℕ, ◌≡◌, Bool, false, List, Option, ap, ◌∙◌}
use Rattle.std.specs.List.{flat_map}
use Rattle.smi_grant.specs.declared.Shown.{Shown}
use Rattle.smi_message.specs.Message.{Message}
use Rattle.smi_tree.specs.Hierarchy.{Hierarchy}
use Rattle.smi_publish.specs.declared.condition.Condition.{Condition}
use Rattle.smi_protocol.specs.Display.{Display, Station}
use Rattle.smi_protocol.specs.Grants.{Grants}
use Rattle.smi_protocol.specs.GrantsOf.{datagram_comes}
use Rattle.smi_protocol.specs.GrantStep.{GrantStep}
use Rattle.smi_protocol.specs.Happening.{Comes}
use Rattle.smi_protocol.specs.Showing.{domain_of_body, is_spent, moved_by_body, passed_in, shown_to_all}
use Rattle.smi_protocol.specs.SoundDisplay.{MayChange}
use Rattle.smi_protocol.specs.Step.{Out, accepted, body_noticed, conditions_by, nothing_out}
use Rattle.smi_protocol.specs.Watching.{Notice}
use Rattle.smi_station_grants.specs.GrantTable.{Kept, grants_of}
use Rattle.smi_station_output.specs.Out.{sent_after, with_notice}
use Rattle.smi_station_decide.specs.Handing.{with_step}
use Rattle.smi_station_display.specs.Displayed.{Displayed, display_of}
use Rattle.smi_station_display.specs.Listening.{KeepsTheRest}
use Rattle.smi_station_display.specs.Members.{Listed}
use Rattle.smi_station.specs.Core.{AreHalves, station_with}
use Rattle.smi_station.specs.Stirring.{action_of, members_in, shown_anew, stirred}
use Rattle.smi_station.proofs.Outcomes.{body_stirs, notice_stays, parts_together, station_together}
use Rattle.smi_station.proofs.Quiet.{quiet_room}

-- one change after another keeps the rest
pub rest_twice : (a b c : Displayed) → KeepsTheRest a b → KeepsTheRest b c → KeepsTheRest a c
rest_twice a b c x y = record { tree = y.tree ∙ x.tree; number = y.number ∙ x.number; boot = y.boot ∙ x.boot }

-- after a notice each object may change as before
pub noticed_room : (d0 d1 : Displayed) (m : Message)
    → display_of d1 ≡ (body_noticed d0.tree d0.number d0.published.boot (display_of d0) m.from m.body).display
    → MayChange (display_of d0) → MayChange (display_of d1)
noticed_room d0 d1 m notices = quiet_room (display_of d0) (display_of d1)
    (ap (λ (s : Display). s.conditions) notices
    ∙ notice_stays d0.tree d0.number d0.published.boot (display_of d0) m.from m.body)

module _ (k0 k2 : Kept) (d0 d1 d2 : Displayed) (m : Message) (domain action : Option ℕ) (before : Listed)
    (halves : AreHalves k0 d0)
    (makes : grants_of k2 ≡ (datagram_comes k0.tree k0.number (grants_of k0) m.from m.body).grants)
    (notices : display_of d1 ≡ (body_noticed d0.tree d0.number d0.published.boot (display_of d0) m.from m.body).display)
    (rest : KeepsTheRest d0 d1)
    (domain_is : domain ≡ domain_of_body d0.tree m.body)
    (before_is : before ≡ members_in d0.tree (grants_of k0) (display_of d0) (domain_of_body d0.tree m.body))
    (action_is : action ≡ action_of d0.tree (grants_of k0) m.body)
    (stirs : display_of d2
    ≡ record (display_of d1) { conditions = stirred d1.tree (grants_of k2) (display_of d1) before action domain })
  where
    abbrev h : Hierarchy
    h = k0.tree

    abbrev s : Station
    s = station_with k0 d0 false

    abbrev g : GrantStep
    g = datagram_comes h k0.number (grants_of k0) m.from m.body

    abbrev n : Notice
    n = body_noticed h k0.number k0.boot (display_of d0) m.from m.body

    abbrev of : Option ℕ
    of = domain_of_body h m.body

    noticed_same : body_noticed d0.tree d0.number d0.published.boot (display_of d0) m.from m.body ≡ n
    noticed_same =
        ap (λ (h : Hierarchy). body_noticed h d0.number d0.published.boot (display_of d0) m.from m.body) halves.tree
        ∙ ap (λ i. body_noticed h i d0.published.boot (display_of d0) m.from m.body) halves.number
        ∙ ap (λ b. body_noticed h k0.number b (display_of d0) m.from m.body) halves.boot

    noticed : display_of d1 ≡ n.display
    noticed = notices ∙ ap (λ (n : Notice). n.display) noticed_same

    tree_is : d1.tree ≡ h
    tree_is = rest.tree ∙ halves.tree

    domain_same : domain ≡ of
    domain_same = domain_is ∙ ap (λ (h : Hierarchy). domain_of_body h m.body) halves.tree

    before_same : before ≡ members_in h (grants_of k0) (display_of d0) of
    before_same =
        before_is ∙ ap (λ (h : Hierarchy). members_in h (grants_of k0) (display_of d0) (domain_of_body h m.body))
        halves.tree

    action_same : action ≡ action_of h (grants_of k0) m.body
    action_same = action_is ∙ ap (λ (h : Hierarchy). action_of h (grants_of k0) m.body) halves.tree

    -- the states that are defined
    abbrev defined : ℕ → Option Condition
    defined = conditions_by h s g.grants n.display (moved_by_body h (grants_of k0) (display_of d0).conditions m.body) of

    states : stirred d1.tree (grants_of k2) (display_of d1) before action domain ≡ defined
    states =
        ap (λ (h : Hierarchy). stirred h (grants_of k2) (display_of d1) before action domain) tree_is
        ∙ ap (λ (g : Grants). stirred h g (display_of d1) before action domain) makes
        ∙ ap (λ (s : Display). stirred h g.grants s before action domain) noticed
        ∙ ap (λ (b : Listed). stirred h g.grants n.display b action domain) before_same
        ∙ ap (λ (a : Option ℕ). stirred h g.grants n.display (members_in h (grants_of k0) (display_of d0) of) a domain)
        action_same
        ∙ ap (stirred h g.grants n.display (members_in h (grants_of k0) (display_of d0) of)
        (action_of h (grants_of k0) m.body)) domain_same
        ∙ body_stirs h s g.grants n.display (notice_stays h k0.number k0.boot (display_of d0) m.from m.body) m.body

    display_then : display_of d2 ≡ record n.display { conditions = defined }
    display_then =
        stirs
        ∙ ap (λ (cs : ℕ → Option Condition). record (display_of d1) { conditions = cs }) states
        ∙ ap (λ (s : Display). record s { conditions = defined }) noticed

    abbrev passed : List Shown
    passed = passed_in h k0.boot (display_of d0).conditions defined of

    passed_same : passed_in d1.tree d1.published.boot (display_of d1).conditions (display_of d2).conditions domain
        ≡ passed
    passed_same =
        ap (λ (h : Hierarchy). passed_in h d1.published.boot (display_of d1).conditions (display_of d2).conditions
        domain) tree_is
        ∙ ap (λ b. passed_in h b (display_of d1).conditions (display_of d2).conditions domain) (rest.boot ∙ halves.boot)
        ∙ ap (λ (cs : ℕ → Option Condition). passed_in h k0.boot cs (display_of d2).conditions domain)
        (ap (λ (s : Display). s.conditions) noticed ∙ notice_stays h k0.number k0.boot (display_of d0) m.from m.body)
        ∙ ap (λ (s : Display). passed_in h k0.boot (display_of d0).conditions s.conditions domain) display_then
        ∙ ap (passed_in h k0.boot (display_of d0).conditions defined) domain_same

    pub heard_station : (stopped : Bool) → stopped
        ≡ is_spent (passed_in d1.tree d1.published.boot (display_of d1).conditions (display_of d2).conditions domain)
        → station_with k2 d2 stopped ≡ (accepted h k0.number s (Comes m)).station
    heard_station stopped is = station_together h k0.number s g n defined passed (grants_of k2) (display_of d2) stopped
        makes display_then (is ∙ ap is_spent passed_same)

    sends_same : shown_anew d1.tree d1.number d1.published.boot (display_of d1) (display_of d2).conditions domain
        ≡ flat_map (shown_to_all h k0.number n.display.watchers) passed
    sends_same =
        ap (flat_map (shown_to_all d1.tree d1.number (display_of d1).watchers)) passed_same
        ∙ ap (λ (h : Hierarchy). flat_map (shown_to_all h d1.number (display_of d1).watchers) passed) tree_is
        ∙ ap (λ i. flat_map (shown_to_all h i (display_of d1).watchers) passed) (rest.number ∙ halves.number)
        ∙ ap (λ (s : Display). flat_map (shown_to_all h k0.number s.watchers) passed) noticed

    pub heard_out : (before_sends after_sends : Out)
        → before_sends ≡ with_notice (with_step nothing_out g)
        (body_noticed d0.tree d0.number d0.published.boot (display_of d0) m.from m.body)
        → after_sends
        ≡ record before_sends {
          datagrams = sent_after before_sends.datagrams
              (shown_anew d1.tree d1.number d1.published.boot (display_of d1) (display_of d2).conditions domain);
          passed = passed_in d1.tree d1.published.boot (display_of d1).conditions (display_of d2).conditions domain;
        }
        → after_sends ≡ (accepted h k0.number s (Comes m)).out
    heard_out before_sends after_sends told sent =
        sent
        ∙ ap (λ (o : Out). record o {
          datagrams = sent_after o.datagrams
              (shown_anew d1.tree d1.number d1.published.boot (display_of d1) (display_of d2).conditions domain);
          passed = passed_in d1.tree d1.published.boot (display_of d1).conditions (display_of d2).conditions domain;
        })
        (told ∙ ap (with_notice (with_step nothing_out g)) noticed_same)
        ∙ parts_together h k0.number s g n defined passed
        (shown_anew d1.tree d1.number d1.published.boot (display_of d1) (display_of d2).conditions domain)
        (passed_in d1.tree d1.published.boot (display_of d1).conditions (display_of d2).conditions domain) sends_same
        passed_same
