use Rattle.std.proofs.Common.{◌≡◌, ◌∙◌, length, ap, sym, arith}
use Rattle.smi_station_grants.proofs.Renewals.{are_counted, count_to_renew, few_to_renew}
use Rattle.smi_station_grants.proofs.Renewals.{named_so, saved_partly, saved_wholly}
use Rattle.smi_station_grants.proofs.migration.migrate.Goals as goal

pub returns-in-Ok-clause-newest : goal.returns-in-Ok-clause-newest
returns-in-Ok-clause-newest g c = λ honest.
    let before = c.in-Ok.ensures.honest honest in
    let found = c.in_ok-anew.ensures.anew before in
    let there = c.in_ok-anew.ensures.certain before found.0 in
    let saved = c.in-Ok.ensures.saved honest there.0 in
    (saved.0, saved_wholly (named_so c.deref.ensures.value found.1) there.1 saved.1)

pub returns-in-Ok-clause-count : goal.returns-in-Ok-clause-count
returns-in-Ok-clause-count g c = λ honest.
    let found = c.in_ok-anew.ensures.anew (c.in-Ok.ensures.honest honest) in
    let to = named_so c.deref-in-Ok.ensures.value found.1 in
    are_counted to c.count_of.result (c.count_of.ensures (few_to_renew to c.has_station.ensures.tree))

pub returns-in-Ok-clause-counted : goal.returns-in-Ok-clause-counted
returns-in-Ok-clause-counted g c = λ honest list listing.
    let found = c.in_ok-anew.ensures.anew (c.in-Ok.ensures.honest honest) in
    let to = named_so c.deref-in-Ok.ensures.value found.1 in
    c.count_of.ensures (few_to_renew to c.has_station.ensures.tree) ∙ count_to_renew to list listing

pub returns-in-Ok-clause-partly : goal.returns-in-Ok-clause-partly
returns-in-Ok-clause-partly g c = λ honest live still.
    let before = c.in-Ok.ensures.honest honest in
    let there = c.in_ok-anew.ensures.certain before live in
    saved_partly (named_so c.deref.ensures.value (c.in_ok-anew.ensures.anew before).1) there.1
    (c.in-Ok.ensures.partly honest there.0 still)

pub returns-in-Ok-clause-crash : goal.returns-in-Ok-clause-crash
returns-in-Ok-clause-crash g c = λ honest live r may.
    let before = c.in-Ok.ensures.honest honest in
    let there = c.in_ok-anew.ensures.certain before live in
    saved_partly (named_so c.deref.ensures.value (c.in_ok-anew.ensures.anew before).1) there.1
    (c.in-Ok.ensures.crash honest there.0 r may)

pub returns-in-Ok-clause-saves : goal.returns-in-Ok-clause-saves
returns-in-Ok-clause-saves g c = λ honest.
    let found = c.in_ok-anew.ensures.anew (c.in-Ok.ensures.honest honest) in
    let counted = c.count_of.ensures
    (few_to_renew (named_so c.deref-in-Ok.ensures.value found.1) c.has_station.ensures.tree) in
    let same : length c.deref-in-Ok.result.now
    ≡ length c.deref.result.now = ap length (c.deref-in-Ok.ensures.value ∙ sym c.deref.ensures.value) in
    omega (arith, counted, same, c.in-Ok.ensures.saves, c.in_ok-anew.ensures.saves)

pub returns-clause-partly : goal.returns-clause-partly
returns-clause-partly g c = λ honest live still.
    let before = c.in-Err.ensures.honest honest in
    let there = c.in_ok-anew.ensures.certain before live in
    saved_partly (named_so c.deref.ensures.value (c.in_ok-anew.ensures.anew before).1) there.1
    (c.in-Err.ensures.partly honest there.0 still)

pub returns-clause-crash : goal.returns-clause-crash
returns-clause-crash g c = λ honest live r may.
    let before = c.in-Err.ensures.honest honest in
    let there = c.in_ok-anew.ensures.certain before live in
    saved_partly (named_so c.deref.ensures.value (c.in_ok-anew.ensures.anew before).1) there.1
    (c.in-Err.ensures.crash honest there.0 r may)
