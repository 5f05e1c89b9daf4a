use Rattle.std.proofs.Common.{◌∙◌, ap}
use Rattle.smi_message.specs.Layout.{bytes_of}
use Rattle.smi_message.specs.Spelling.{spelling}
use Rattle.smi_message.proofs.writing.encode.Goals as goal

pub returns : goal.returns
returns c = c.write_fields.ensures ∙ ap bytes_of c.fields_of.ensures ∙ ap spelling c.datagram.view_is
