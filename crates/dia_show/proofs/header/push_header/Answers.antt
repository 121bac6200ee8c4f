use Rattle.std.proofs.Common.{[], ◌∷◌, codes}
use Rattle.std.specs.Prelude.{option_map, string_bytes}
use Rattle.std.proofs.lemmas.Result.{on_ok_weaker}
use Rattle.dia_show.specs.Listing.{code_text, header_flags, header_rest}
use Rattle.dia_show.proofs.KnownAvps.{header_joined}
use Rattle.dia_show.proofs.header.push_header.Goals as goal

pub returns : goal.returns
returns c =
    let h = c.args.header.now in
    on_ok_weaker c.push_rest.result
    (header_joined (string_bytes c.args.text.now) (codes "header flags ") (header_flags c.args.names h.flags) (codes " code ")
    (code_text c.args.names h (option_map (λ name. name.now) c.args.command))
    (header_rest h c.args.length) (10 ∷ []) _ _ _ _ _ c.in_ok-push_str.ensures.bytes c.in_ok-push_header_flags.ensures c.in_ok-push_str-2.ensures.bytes c.in_ok-push_code.ensures) c.push_rest.ensures
