use Rattle.std.proofs.Common.{inl, inr, IfOk, IfErr, OnOk, Result, Ok, Err, pos, subst}
use Rattle.sqlite.specs.Held.{state}
use Rattle.sqlite_schema.specs.Rules.{Keeps}
use Rattle.sqlite_schema.specs.declared.schema.Constraint.TheVariants.{Unique}
use Rattle.smi_stable.proofs.SqlLoads.{loads, load-unchanged, load-open, load-fails, load-commits}
use Rattle.smi_stable.proofs.SqlUnique.{listed}
use Rattle.smi_stable.proofs.SqlKeeps.{StillAt, still, clean_before}
use Rattle.smi_stable.proofs.listing.list_rows.Goals as goal

then : {A E : Type 0} (r : Result A E) (P Q : A → Type 0) → IfOk r P → ((a : A) → P a → Q a) → IfOk r Q
then (Ok a) P Q h next = next a h
then (Err e) P Q h next = tt

if_ok : {A E : Type 0} (r : Result A E) (P : A → Type 0) (X : Type 0) → IfOk r P → ((a : A) → P a → X) → OnOk r X
if_ok (Ok a) P X h next = next a h
if_ok (Err e) P X h next = tt

either_way : {A E : Type 0} (r : Result A E) (P : A → Type 0) (Q : E → Type 0) (X : Type 0) → IfOk r P → IfErr r Q
    → ((a : A) → P a → X) → ((e : E) → Q e → X) → X
either_way (Ok a) P Q X h k ok err = ok a h
either_way (Err e) P Q X h k ok err = err e k

pub returns-clause-values : goal.returns-clause-values
returns-clause-values g c ready clean live =
    let old = state g.S.Store c.args.conn.now in
    let new = state g.S.Store c.query_all.new.self in
    let rest = (ready (clean_before old new _ c.query_all.ensures.survives clean)).1 live in
    let sound = (c.schema-schema.ensures.live live).0 in
    let unique = subst (λ k. Keeps Unique k old.now.trees) rest.schema (sound.obeys.rules Unique) in
    then c.query_all.result _ _ (c.query_all.ensures.ok clean)
    (λ rows shown k. listed old.now.trees rows.items rest.keyed unique (loads old new rows.items rest.schema shown)
    (pos k.station) (pos k.domain) (pos k.operator))

pub returns-clause-unchanged : goal.returns-clause-unchanged
returns-clause-unchanged g c ready clean live =
    let old = state g.S.Store c.args.conn.now in
    let new = state g.S.Store c.query_all.new.self in
    let rest = (ready (clean_before old new _ c.query_all.ensures.survives clean)).1 live in
    if_ok c.query_all.result _ _ (c.query_all.ensures.ok clean)
    (λ rows shown. load-unchanged old new rows.items rest.schema shown)

pub returns-clause-clean : goal.returns-clause-clean
returns-clause-clean g c clean = clean_before (state g.S.Store c.args.conn.now)
    (state g.S.Store c.query_all.new.self) _ c.query_all.ensures.survives clean

pub returns-clause-crash : goal.returns-clause-crash
returns-clause-crash g c ready clean live db may =
    let old = state g.S.Store c.args.conn.now in
    let new = state g.S.Store c.query_all.new.self in
    let rest = (ready (clean_before old new _ c.query_all.ensures.survives clean)).1 live in
    elim (c.query_all.ensures.survives.crash clean db may) [
      | inl before ↦ before
      | inr commits ↦ absurd (load-commits old db rest.schema commits)
    ]

pub returns-clause-still : goal.returns-clause-still
returns-clause-still g c ready clean live =
    let old = state g.S.Store c.args.conn.now in
    let new = state g.S.Store c.query_all.new.self in
    let rest = (ready (clean_before old new _ c.query_all.ensures.survives clean)).1 live in
    either_way c.query_all.result _ _ _ (c.query_all.ensures.ok clean) (c.query_all.ensures.err clean)
    (λ rows shown. inl (load-unchanged old new rows.items rest.schema shown))
    (λ e fails. load-fails old new _ _ e fails)

pub returns-clause-ready : goal.returns-clause-ready
returns-clause-ready g c ready clean =
    let old = state g.S.Store c.args.conn.now in
    let new = state g.S.Store c.query_all.new.self in
    let before = ready (clean_before old new _ c.query_all.ensures.survives clean) in
    let s = either_way c.query_all.result _ _ (StillAt old new) (c.query_all.ensures.ok clean)
    (c.query_all.ensures.err clean)
    (λ rows shown. still old new before.0 before.1
    (inl (load-unchanged old new rows.items (before.1 (load-open old new _ _ rows.items shown)).schema shown)))
    (λ e fails. still old new before.0 before.1 (load-fails old new _ _ e fails)) in
    (s.0, λ live. (s.1 live).0)

pub returns-clause-was_open : goal.returns-clause-was_open
returns-clause-was_open g c clean =
    let old = state g.S.Store c.args.conn.now in
    let new = state g.S.Store c.query_all.new.self in
    then c.query_all.result _ _ (c.query_all.ensures.ok clean) (λ rows shown. load-open old new _ _ rows.items shown)
