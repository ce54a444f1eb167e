-- A list is sent element by element.
use Rattle.std.proofs.Common.{◌≡◌, List, [], ◌∷◌, ◌++◌, Option, ℕ, refl, ap, sym, ◌∙◌, append_assoc, append-nil}
use Rattle.std.specs.List.{flat_map}
use Rattle.json.specs.Token.{Token, begin_array, end_array}
use Rattle.serde.specs.Event as event
use Rattle.serde.specs.Event.{Log, Logs}
use Rattle.show_lines.specs.Sent.{Sends}
use Rattle.show_lines.specs.Tokens.{list_tokens}
use Rattle.show_lines.proofs.Sending.{after, array_begin_sent, array_end_sent, none_sent, said_as}

-- of all elements, those in front of the ones that are left have been sent
pub record SendsFront {X : Type 0} (tokens : X → List Token) (all left : List X) (old new : Log) : Type 0 where
  pub so_far : List Token
  pub sent : Sends so_far old new
  pub is : so_far ++ flat_map tokens left ≡ flat_map tokens all

module _ {X : Type 0} (tokens : X → List Token) (all : List X) where
  pub front_none : (old : Log) → SendsFront tokens all all old old
  front_none old = record { so_far = []; sent = none_sent old; is = refl }

  pub front_more : (x : X) (left rest : List X) (old mid new : Log) → SendsFront tokens all left old mid → left ≡ x ∷ rest → Sends (tokens x) mid new → SendsFront tokens all rest old new
  front_more x left rest old mid new front step sent = record {
    so_far = front.so_far ++ tokens x;
    sent = after front.sent sent;
    is = append_assoc front.so_far (tokens x) (flat_map tokens rest) ∙ ap (λ es. front.so_far ++ flat_map tokens es) (sym step) ∙ front.is;
  }

  pub list_sent : (n : Option ℕ) (left : List X) (old first last new : Log) → Logs old first (event.seq_begins n) → SendsFront tokens all left first last → left ≡ [] → Logs last new event.seq_ends → Sends (list_tokens tokens all) old new
  list_sent n left old first last new begins front none ends =
      let whole : front.so_far ≡ flat_map tokens all = sym (append-nil front.so_far) ∙ ap (λ es. front.so_far ++ flat_map tokens es) (sym none) ∙ front.is in
      said_as (ap (λ ts. begin_array ∷ (ts ++ end_array ∷ [])) whole) (after (array_begin_sent n old first begins) (after front.sent (array_end_sent last new ends)))
