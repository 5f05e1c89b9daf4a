use Rattle.std.proofs.Common.{◌∙◌, ap}
use Rattle.std.specs.Str.{bytes_eq}
use Rattle.indexmap.specs.IndexSet.{insert_key}
use Rattle.smi_tree.proofs.NamedLemmas.{kept-inserted}
use Rattle.smi_tree.proofs.NumberLemmas.{absent-new}
use Rattle.smi_tree.proofs.names.Names.push.Goals as goal

pub returns : goal.returns
returns c =
    let names = c.self.inside.names.keys in
    c.in_ok-insert.ensures.keys
    ∙ ap (insert_key bytes_eq names) c.to_owned.ensures.same
    ∙ rw c.self.view_is (absent-new c.args.self.now c.args.name.now c.requires.absent)

pub invariant_of-self-2 : goal.invariant_of-self-2
invariant_of-self-2 c =
    let names = c.self.inside.names.keys in
    kept-inserted c.insert.result names c.insert.new.self.keys c.args.name.now
    (rw (← c.to_owned.ensures.same) c.insert.ensures.keys) c.insert.ensures.err
    (rw c.self.view_is c.requires.absent) (rw c.self.view_is c.requires.few)
    c.to_owned.ensures.well_formed c.self.invariant.1 c.self.invariant.2

pub invariant_of-self-in_err-note : goal.invariant_of-self-in_err-note
invariant_of-self-in_err-note c =
    let names = c.self.inside.names.keys in
    kept-inserted c.insert.result names c.insert.new.self.keys c.args.name.now
    (rw (← c.to_owned.ensures.same) c.insert.ensures.keys) c.insert.ensures.err
    (rw c.self.view_is c.requires.absent) (rw c.self.view_is c.requires.few)
    c.to_owned.ensures.well_formed c.self.invariant.1 c.self.invariant.2
