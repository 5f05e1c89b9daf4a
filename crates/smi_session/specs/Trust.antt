-- What the lines of a session show of it.
use Rattle.std.specs.Prelude.{ℕ, ◌&&◌, ◌||◌, not, Bool, false, List, [], ◌∷◌, Option, Some, None, is_some}
use Rattle.std.specs.Prelude.{if◌then◌else◌}
use Rattle.smi_tree.specs.File.{is_comment}
use Rattle.smi_session.specs.Line.{kind_of}
use Rattle.smi_session.specs.Query.{query_named}
use Rattle.smi_session.specs.Session.{SessionState}
use Rattle.smi_session.specs.declared.request.SessionRequest.{SessionRequest}
use Rattle.smi_session.specs.declared.session.ReplyStyle.{ReplyStyle}
use Rattle.smi_session.specs.declared.session.ReplyStyle.TheVariants.{Script, Human}
use Rattle.smi_session.specs.declared.trust.Trust.{Trust}
use Rattle.smi_session.specs.declared.trust.Trust.TheVariants.{New, Accepted, Refused}

-- a line of a node may begin with this word
abbrev pub may_begin : List ℕ → Bool
may_begin word = is_comment word || is_some (kind_of word) || is_some (query_named word)

-- a text begins with a word that no line of a node begins with
abbrev pub is_foreign : List (List ℕ) → Bool
is_foreign [] = false
is_foreign (word ∷ more) = not (may_begin word)

-- no client of a connection begins with such a line; one with a tag is a client's, and the standard input is the node's
abbrev pub is_strange : ReplyStyle → Bool → List (List ℕ) → Bool
is_strange Script has_tag text = false
is_strange Human has_tag text = not has_tag && is_foreign text

-- a session is accepted from its first line that asks anything
abbrev pub admitted : Option SessionRequest → SessionState → SessionState
admitted (Some request) s = record s { trust = Accepted }
admitted None s = s

-- and refused for a strange line before that
abbrev pub after_fault : Bool → Trust → Trust
after_fault strange New = if strange then Refused else New
after_fault strange Accepted = Accepted
after_fault strange Refused = Refused

abbrev pub judged : Bool → List (List ℕ) → SessionState → SessionState
judged has_tag text s = record s { trust = after_fault (is_strange s.style has_tag text) s.trust }
