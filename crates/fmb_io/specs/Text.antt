-- The text that is read from a source, or from a host (this project's own).
use Rattle.std.specs.Prelude.{◌≡◌, ◌<◌, ◌^◌, ◌⊎◌, ℕ, List, ◌∷◌, [], Option, None, Some, IfSome, ⊤, length}
use Rattle.std.specs.Io.{StartsWith}
use Rattle.text_streams.specs.States.{SourceState}
use Rattle.fmb_host.specs.Host.{HostView}
use Rattle.fmb_host.specs.Stocks.{LosesFirst, Passes}

-- where a source tells what it has left, it is this text
abbrev pub IsTextOf : Option (List ℕ) → List ℕ → Type 0
IsTextOf told text = IfSome told (λ bytes. bytes ≡ text)

-- this holds of a text that a source has left
abbrev pub OfText : Option (List ℕ) → (List ℕ → Type 0) → Type 0
OfText told P = (text : List ℕ) × IsTextOf told text × P text

-- what was read of a source: all that it had left, where it tells that, or more bytes than a script or a capture may have
abbrev pub IsReadOf : Option (List ℕ) → List ℕ → Type 0
IsReadOf None text = ⊤
IsReadOf (Some whole) text = (text ≡ whole) ⊎ ((2 ^ 24 < length text) × StartsWith whole text)

-- the host tells that the text which it will hand out next is this one
pub record HasNext (text : List ℕ) (host : HostView) : Type 0 where
  pub source : SourceState
  pub later : List SourceState
  pub texts : host.texts.coming ≡ Some (source ∷ later)
  pub told : source.left ≡ Some text

-- a text was opened under a name: the host's next one where it tells them, and named so where it tells its name, with
-- these bytes where it tells them
pub record IsOpened (word text : List ℕ) (before after : HostView) : Type 0 where
  pub source : SourceState
  pub next : LosesFirst before.texts.coming source after.texts.coming
  pub named : IfSome source.name (λ told. told ≡ word)
  pub bytes : IsTextOf source.left text

-- a text was opened under a name, and this holds of it
abbrev pub OfOpened : List ℕ → HostView → HostView → (List ℕ → Type 0) → Type 0
OfOpened word before after P = (text : List ℕ) × IsOpened word text before after × P text

-- A text was opened under a name and read: `text` is all its bytes, or those of its front that make it too long for a script or a
-- capture.
pub record ReadsText (word text : List ℕ) (before after : HostView) : Type 0 where
  pub source : SourceState
  pub next : LosesFirst before.texts.coming source after.texts.coming
  pub named : IfSome source.name (λ told. told ≡ word)
  pub read : IsReadOf source.left text

-- no text was handed out, and none came back
abbrev pub OpensNothing : HostView → HostView → Type 0
OpensNothing before after = after.texts ≡ before.texts

-- A text was handed out, and it came back as this holds of it.
pub record IsReturned (P : SourceState → Type 0) (before after : HostView) : Type 0 where
  pub source : SourceState
  pub read : SourceState
  pub passes : Passes (source ∷ []) (read ∷ []) before.texts after.texts
  pub holds : P read
