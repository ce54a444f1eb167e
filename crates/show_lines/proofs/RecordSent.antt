-- The tokens of a record, of what was asked of its view.
use Rattle.std.proofs.Common.{ℕ, List, [], ◌∷◌, ◌++◌, Option, codes, decimal}
use Rattle.std.specs.Fmt.{signed_decimal}
use Rattle.json.specs.Token.{Token, begin_object, end_object, key, number, string}
use Rattle.avl_values.specs.IoElement.{IoElement}
use Rattle.avl_values.specs.declared.gps.Gps.{Gps}
use Rattle.show_lines.specs.Tokens.{element_tokens, list_tokens, number_or_null, nx_tokens}

abbrev pub tokens_by : Gps → ℕ → Option ℕ → List IoElement → List (ℕ × List ℕ) → ℕ → ℕ → ℕ → List Token
tokens_by gps event generation ios nx priority time line =
    begin_object ∷ key (codes "altitude") ∷ number (signed_decimal gps.altitude)
    ∷ key (codes "angle") ∷ number (decimal gps.angle)
    ∷ key (codes "event") ∷ number (decimal event)
    ∷ key (codes "generation") ∷ number_or_null generation
    ∷ key (codes "io") ∷ (list_tokens element_tokens ios
    ++ key (codes "item") ∷ string (codes "record")
    ∷ key (codes "latitude") ∷ number (signed_decimal gps.latitude)
    ∷ key (codes "line") ∷ number (decimal line)
    ∷ key (codes "longitude") ∷ number (signed_decimal gps.longitude)
    ∷ key (codes "nx") ∷ (list_tokens nx_tokens nx
    ++ key (codes "priority") ∷ number (decimal priority)
    ∷ key (codes "satellites") ∷ number (decimal gps.satellites)
    ∷ key (codes "speed") ∷ number (decimal gps.speed)
    ∷ key (codes "time") ∷ number (decimal time) ∷ end_object ∷ []))
