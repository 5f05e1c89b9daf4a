-- Fields that 44 bytes have spell those bytes, and fields are read as they were written.
use Rattle.std.proofs.Common.{◌≡◌, ℕ, zero, suc, ◌+◌, ◌^◌, ◌<◌, List, [], ◌∷◌, ◌++◌, length, get_or, drop, refl, sym}
use Rattle.std.proofs.Common.{ap, ◌∙◌, arith}
use Rattle.std.specs.Prelude.{slice_index}
use Rattle.std.specs.Int.{w16, w32, w64, to_be_bytes}
use Rattle.std.proofs.Math.Seq.{drop-cons}
use Rattle.std.proofs.lemmas.List.{drop_all}
use Rattle.std.proofs.lemmas.Nat.{be_bytes_2, be_bytes_4, be_bytes_8, from_be_bytes-to_be_bytes_2}
use Rattle.std.proofs.lemmas.Nat.{from_be_bytes-to_be_bytes_4, from_be_bytes-to_be_bytes_8}
use Rattle.smi_message.specs.declared.fields.Fields.{Fields}
use Rattle.smi_message.specs.Layout.{bytes_of, fields_at}
use Rattle.smi_base.specs.Bytes.{u16_at, u32_at, u64_at}

abbrev pub IsBytes : List ℕ → Type 0
IsBytes b = (i : ℕ) → get_or b i 0 < 256

-- ---- fields that agree at each place are the same

made : ℕ → ℕ → ℕ → ℕ → ℕ → ℕ → ℕ → ℕ → ℕ → ℕ → ℕ → ℕ → ℕ → ℕ → ℕ → ℕ → Fields
made layout kind from to subject holder_kind phase holder code epoch number argument tree echo boot sequence = record {
  layout = layout;
  kind = kind;
  from = from;
  to = to;
  subject = subject;
  holder_kind = holder_kind;
  phase = phase;
  holder = holder;
  code = code;
  epoch = epoch;
  number = number;
  argument = argument;
  tree = tree;
  echo = echo;
  boot = boot;
  sequence = sequence;
}

made_again : (f : Fields) → made f.layout f.kind f.from f.to f.subject f.holder_kind f.phase f.holder f.code f.epoch
    f.number f.argument f.tree f.echo f.boot f.sequence ≡ f
unfolding made
made_again f = refl

pub record Agree (f g : Fields) : Type 0 where
  pub layout : f.layout ≡ g.layout
  pub kind : f.kind ≡ g.kind
  pub from : f.from ≡ g.from
  pub to : f.to ≡ g.to
  pub subject : f.subject ≡ g.subject
  pub holder_kind : f.holder_kind ≡ g.holder_kind
  pub phase : f.phase ≡ g.phase
  pub holder : f.holder ≡ g.holder
  pub code : f.code ≡ g.code
  pub epoch : f.epoch ≡ g.epoch
  pub number : f.number ≡ g.number
  pub argument : f.argument ≡ g.argument
  pub tree : f.tree ≡ g.tree
  pub echo : f.echo ≡ g.echo
  pub boot : f.boot ≡ g.boot
  pub sequence : f.sequence ≡ g.sequence

pub same : (f g : Fields) → Agree f g → f ≡ g
same f g a =
    let t : made f.layout f.kind f.from f.to f.subject f.holder_kind f.phase f.holder f.code f.epoch f.number
    f.argument f.tree f.echo f.boot f.sequence
    ≡ made g.layout g.kind g.from g.to g.subject g.holder_kind g.phase g.holder g.code g.epoch g.number g.argument
    g.tree g.echo g.boot g.sequence
    = cc in
    sym (made_again f) ∙ t ∙ made_again g

-- ---- from bytes to fields and back

abbrev AllSmall : List ℕ → Type 0
AllSmall [] = Unit {0}
AllSmall (x ∷ b) = (x < 256) × AllSmall b

small : (b : List ℕ) → AllSmall b → IsBytes b
small [] h i = omega arith
small (x ∷ b) h zero = h.0
small (x ∷ b) h (suc i) = small b h.1 i

-- n cells from place i on
abbrev cells : ℕ → ℕ → List ℕ → List ℕ
cells zero i b = []
cells (suc n) i b = get_or b i 0 ∷ cells n (suc i) b

cells-all : (n i : ℕ) (b : List ℕ) → n + i ≡ length b → cells n i b ≡ drop i b
cells-all zero i b h = sym (drop_all i b (omega arith))
cells-all (suc n) i b h =
    let here : i < length b = omega arith in
    ap (λ (t : List ℕ). get_or b i 0 ∷ t) (cells-all n (suc i) b (omega arith)) ∙ sym (drop-cons b i 0 here)

two : (b : List ℕ) (i : ℕ) → IsBytes b → to_be_bytes w16 (u16_at b i) ≡ slice_index b i ∷ slice_index b (i + 1) ∷ []
two b i h =
    let t = slice_index b i ∷ slice_index b (i + 1) ∷ [] in
    be_bytes_2 t (u16_at b i) refl (small t (h i, (h (i + 1), tt))) refl

four : (b : List ℕ) (i : ℕ) → IsBytes b → to_be_bytes w32 (u32_at b i) ≡ slice_index b i ∷ slice_index b (i + 1)
    ∷ slice_index b (i + 2) ∷ slice_index b (i + 3) ∷ []
four b i h =
    let t = slice_index b i ∷ slice_index b (i + 1) ∷ slice_index b (i + 2) ∷ slice_index b (i + 3) ∷ [] in
    be_bytes_4 t (u32_at b i) refl (small t (h i, (h (i + 1), (h (i + 2), (h (i + 3), tt))))) refl

eight : (b : List ℕ) (i : ℕ) → IsBytes b → to_be_bytes w64 (u64_at b i) ≡ slice_index b i ∷ slice_index b (i + 1)
    ∷ slice_index b (i + 2) ∷ slice_index b (i + 3) ∷ slice_index b (i + 4) ∷ slice_index b (i + 5)
    ∷ slice_index b (i + 6) ∷ slice_index b (i + 7) ∷ []
eight b i h =
    let t = slice_index b i ∷ slice_index b (i + 1) ∷ slice_index b (i + 2) ∷ slice_index b (i + 3)
    ∷ slice_index b (i + 4) ∷ slice_index b (i + 5) ∷ slice_index b (i + 6) ∷ slice_index b (i + 7) ∷ [] in
    be_bytes_8 t (u64_at b i) refl
    (small t (h i, (h (i + 1), (h (i + 2), (h (i + 3), (h (i + 4), (h (i + 5), (h (i + 6), (h (i + 7), tt)))))))))
    refl

joined : List ℕ → List ℕ → List ℕ → List ℕ → List ℕ → List ℕ → List ℕ → List ℕ → List ℕ → List ℕ → List ℕ → List ℕ
    → List ℕ → List ℕ → List ℕ
joined a b c d e f g h i j k l m n = a ++ b ++ c ++ d ++ e ++ f ++ g ++ h ++ i ++ j ++ k ++ l ++ m ++ n

bytes_joined : (f : Fields) → bytes_of f ≡ joined (0x53 ∷ 0x4D ∷ f.layout ∷ f.kind ∷ []) (to_be_bytes w16 f.from)
    (to_be_bytes w16 f.to) (to_be_bytes w16 f.subject) (f.holder_kind ∷ f.phase ∷ []) (to_be_bytes w16 f.holder)
    (to_be_bytes w16 f.code) (to_be_bytes w64 f.epoch) (to_be_bytes w32 f.number) (to_be_bytes w16 f.argument)
    (to_be_bytes w16 f.tree) (to_be_bytes w32 f.echo) (to_be_bytes w32 f.boot) (to_be_bytes w32 f.sequence)
unfolding joined
bytes_joined f = refl

cells_joined : (b : List ℕ) → joined (cells 4 0 b) (cells 2 4 b) (cells 2 6 b) (cells 2 8 b) (cells 2 10 b)
    (cells 2 12 b) (cells 2 14 b) (cells 8 16 b) (cells 4 24 b) (cells 2 28 b) (cells 2 30 b) (cells 4 32 b)
    (cells 4 36 b) (cells 4 40 b) ≡ cells 44 0 b
unfolding joined
cells_joined b = refl

-- 44 bytes that begin as a datagram does are what their fields spell
pub bytes_again : (b : List ℕ) → length b ≡ 44 → IsBytes b → slice_index b 0 ≡ 0x53 → slice_index b 1 ≡ 0x4D
    → bytes_of (fields_at b) ≡ b
bytes_again b l h s m =
    let head : 0x53 ∷ 0x4D ∷ slice_index b 2 ∷ slice_index b 3 ∷ [] ≡ cells 4 0 b = cc in
    let from : to_be_bytes w16 (u16_at b 4) ≡ cells 2 4 b = two b 4 h in
    let to : to_be_bytes w16 (u16_at b 6) ≡ cells 2 6 b = two b 6 h in
    let subject : to_be_bytes w16 (u16_at b 8) ≡ cells 2 8 b = two b 8 h in
    let holder : to_be_bytes w16 (u16_at b 12) ≡ cells 2 12 b = two b 12 h in
    let code : to_be_bytes w16 (u16_at b 14) ≡ cells 2 14 b = two b 14 h in
    let epoch : to_be_bytes w64 (u64_at b 16) ≡ cells 8 16 b = eight b 16 h in
    let number : to_be_bytes w32 (u32_at b 24) ≡ cells 4 24 b = four b 24 h in
    let argument : to_be_bytes w16 (u16_at b 28) ≡ cells 2 28 b = two b 28 h in
    let tree : to_be_bytes w16 (u16_at b 30) ≡ cells 2 30 b = two b 30 h in
    let echo : to_be_bytes w32 (u32_at b 32) ≡ cells 4 32 b = four b 32 h in
    let boot : to_be_bytes w32 (u32_at b 36) ≡ cells 4 36 b = four b 36 h in
    let sequence : to_be_bytes w32 (u32_at b 40) ≡ cells 4 40 b = four b 40 h in
    let all : joined (0x53 ∷ 0x4D ∷ slice_index b 2 ∷ slice_index b 3 ∷ []) (to_be_bytes w16 (u16_at b 4))
    (to_be_bytes w16 (u16_at b 6)) (to_be_bytes w16 (u16_at b 8)) (slice_index b 10 ∷ slice_index b 11 ∷ [])
    (to_be_bytes w16 (u16_at b 12)) (to_be_bytes w16 (u16_at b 14)) (to_be_bytes w64 (u64_at b 16))
    (to_be_bytes w32 (u32_at b 24)) (to_be_bytes w16 (u16_at b 28)) (to_be_bytes w16 (u16_at b 30))
    (to_be_bytes w32 (u32_at b 32)) (to_be_bytes w32 (u32_at b 36)) (to_be_bytes w32 (u32_at b 40))
    ≡ joined (cells 4 0 b) (cells 2 4 b) (cells 2 6 b) (cells 2 8 b) (cells 2 10 b) (cells 2 12 b) (cells 2 14 b)
    (cells 8 16 b) (cells 4 24 b) (cells 2 28 b) (cells 2 30 b) (cells 4 32 b) (cells 4 36 b) (cells 4 40 b)
    = rw (head, from, to, subject, holder, code, epoch, number, argument, tree, echo, boot, sequence) refl in
    bytes_joined (fields_at b) ∙ all ∙ cells_joined b ∙ cells-all 44 0 b (sym l)

-- numbers that fit their places
pub record Fit (f : Fields) : Type 0 where
  pub from : f.from < 2 ^ 16
  pub to : f.to < 2 ^ 16
  pub subject : f.subject < 2 ^ 16
  pub holder : f.holder < 2 ^ 16
  pub code : f.code < 2 ^ 16
  pub epoch : f.epoch < 2 ^ 64
  pub number : f.number < 2 ^ 32
  pub argument : f.argument < 2 ^ 16
  pub tree : f.tree < 2 ^ 16
  pub echo : f.echo < 2 ^ 32
  pub boot : f.boot < 2 ^ 32
  pub sequence : f.sequence < 2 ^ 32

pub fields_again : (f : Fields) → Fit f → fields_at (bytes_of f) ≡ f
fields_again f w =
    same (fields_at (bytes_of f)) f record {
      layout = refl;
      kind = refl;
      from = from_be_bytes-to_be_bytes_2 f.from w.from;
      to = from_be_bytes-to_be_bytes_2 f.to w.to;
      subject = from_be_bytes-to_be_bytes_2 f.subject w.subject;
      holder_kind = refl;
      phase = refl;
      holder = from_be_bytes-to_be_bytes_2 f.holder w.holder;
      code = from_be_bytes-to_be_bytes_2 f.code w.code;
      epoch = from_be_bytes-to_be_bytes_8 f.epoch w.epoch;
      number = from_be_bytes-to_be_bytes_4 f.number w.number;
      argument = from_be_bytes-to_be_bytes_2 f.argument w.argument;
      tree = from_be_bytes-to_be_bytes_2 f.tree w.tree;
      echo = from_be_bytes-to_be_bytes_4 f.echo w.echo;
      boot = from_be_bytes-to_be_bytes_4 f.boot w.boot;
      sequence = from_be_bytes-to_be_bytes_4 f.sequence w.sequence;
    }
