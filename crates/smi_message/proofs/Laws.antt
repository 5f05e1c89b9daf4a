-- What is read is spelled so, and what is spelled so is read.
use Rattle.std.proofs.Common.{◌≡◌, ℕ, Bool, true, false, cond, List, length, Option, Some, None, Result, Ok, Err}
use Rattle.std.proofs.Common.{refl, sym, ap, ◌∙◌, arith}
use Rattle.std.specs.Prelude.{◌&&◌, ◌||◌, ◌==◌, slice_index, IfOk}
use Rattle.std.proofs.lemmas.Bool.{eqb-true, and_parts}
use Rattle.smi_message.specs.declared.bad.Bad.{Bad}
use Rattle.smi_message.specs.declared.bad.Bad.TheVariants as bad
use Rattle.smi_message.specs.declared.datagram.Body.{Body}
use Rattle.smi_message.specs.declared.fields.Fields.{Fields}
use Rattle.smi_message.specs.Message.{Message, is_message, is_addressed, is_body}
use Rattle.smi_base.specs.Between.{is_between}
use Rattle.smi_message.specs.Layout.{bytes_of, fields_at}
use Rattle.smi_message.specs.Kinds.{fields_of, body_at, is_rest_zero}
use Rattle.smi_message.specs.Spelling.{spelling, message_of, message_where, message_at, is_kind, reading}
use Rattle.smi_message.proofs.Bytes.{IsBytes, bytes_again, fields_again}
use Rattle.smi_message.proofs.Back.{fields_back}
use Rattle.smi_message.proofs.Again.{layout_again, kind_again, rest_again, body_again, address_again, fit}

guard : {A : Type 0} (t : Bool) (x : Result A Bad) (d : Bad) (y : A) → cond t x (Err d) ≡ Ok y → (t ≡ true) × (x ≡ Ok y)
guard true x d y h = (refl, h)
guard false x d y h = absurd cc

done : {A : Type 0} (x y : A) → (let a : Result A Bad = Ok x in a) ≡ Ok y → x ≡ y
done x y h = cc

-- ---- what is read is spelled so

where_read : (f : Fields) (o : Option Body) (m : Message) → body_at f ≡ o → is_kind f.layout f.kind ≡ true
    → message_where f o ≡ Ok m → spelling m ≡ bytes_of f
where_read f None m o k e = absurd cc
where_read f (Some b) m o k e =
    let g = guard (is_message (message_of f b)) _ bad.Range m e in
    let z = guard (is_rest_zero f) (Ok (message_of f b)) bad.Unused m g.1 in
    ap spelling (sym (done (message_of f b) m z.1)) ∙ ap bytes_of (fields_back f b k o z.0)

fields_read : (f : Fields) (m : Message) → is_kind f.layout f.kind ≡ true → message_at f ≡ Ok m
    → spelling m ≡ bytes_of f
unfolding message_at
fields_read f m k e = where_read f (body_at f) m refl k e

pub read_is_spelled : (b : List ℕ) (m : Message) → IsBytes b → reading b ≡ Ok m → b ≡ spelling m
read_is_spelled b m h e =
    let size = guard (length b == 44) _ bad.Length m e in
    let magic = guard (slice_index b 0 == 0x53 && slice_index b 1 == 0x4D) _ bad.Magic m size.1 in
    let layout = guard (is_between 1 2 (slice_index b 2)) _ bad.Layout m magic.1 in
    let kind = guard (is_kind (slice_index b 2) (slice_index b 3)) _ bad.Kind m layout.1 in
    let p = and_parts (slice_index b 0 == 0x53) (slice_index b 1 == 0x4D) magic.0 in
    sym (fields_read (fields_at b) m kind.0 kind.1
    ∙ bytes_again b (eqb-true _ _ size.0) h (eqb-true _ _ p.0) (eqb-true _ _ p.1))

pub read_is_found : (b : List ℕ) (r : Result Message Bad) → IsBytes b → r ≡ reading b → IfOk r (λ m. b ≡ spelling m)
read_is_found b (Ok m) h e = read_is_spelled b m h (sym e)
read_is_found b (Err d) h e = tt

-- ---- what is spelled so is read

reading_bytes : (f : Fields) → fields_at (bytes_of f) ≡ f → is_between 1 2 f.layout ≡ true
    → is_kind f.layout f.kind ≡ true → reading (bytes_of f) ≡ message_at f
reading_bytes f again l k =
    let a : reading (bytes_of f) ≡ cond (is_between 1 2 f.layout)
    (cond (is_kind f.layout f.kind) (message_at (fields_at (bytes_of f))) (Err bad.Kind)) (Err bad.Layout) = refl in
    a ∙ rw (l, k) (ap message_at again)

accepted : (f : Fields) (b : Body) → body_at f ≡ Some b → is_message (message_of f b) ≡ true → is_rest_zero f ≡ true
    → message_at f ≡ Ok (message_of f b)
unfolding message_at
accepted f b o r z = ap (message_where f) o ∙ rw (r, z) refl

message_again : (from to tree : ℕ) (b : Body)
    → message_of (fields_of from to tree b) b ≡ record { from = from; to = to; tree = tree; body = b }
message_again from to tree b = let i = address_again from to tree b in rw (i.from, i.to, i.tree) refl

pub spelled_is_read : (m : Message) → is_message m ≡ true → reading (spelling m) ≡ Ok m
spelled_is_read m h =
    let p = and_parts (is_addressed m.from m.to m.tree) (is_body m.body) h in
    let f = fields_of m.from m.to m.tree m.body in
    let again = fields_again f (fit m.from m.to m.tree m.body p.0 p.1) in
    let same = message_again m.from m.to m.tree m.body in
    reading_bytes f again (layout_again m.from m.to m.tree m.body) (kind_again m.from m.to m.tree m.body)
    ∙ accepted f m.body (body_again m.from m.to m.tree m.body p.1) (ap is_message same ∙ h)
    (rest_again m.from m.to m.tree m.body)
    ∙ ap (λ (x : Message). Ok x) same
