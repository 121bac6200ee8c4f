-- The canonical text of a declaration, or of a head, is read as that.
use Rattle.std.proofs.Common.{◌≡◌, ℕ, ◌<◌, Bool, true, false, not, cond, nat_lt, nat_le, eqb, ◌&&◌, List, [], ◌∷◌, ◌++◌, length, Option}
use Rattle.std.proofs.Common.{Some, None, codes, Vec, inl, inr, refl, append_assoc, arith}
use Rattle.std.specs.List.{flat_map, list_all}
use Rattle.std.specs.Option.{option_map}
use Rattle.std.specs.Global.{Global}
use Rattle.std.specs.Fmt.{decimal}
use Rattle.std.proofs.lemmas.Bool.{and_parts, ltb-true, leb-true, eqb-true}
use Rattle.dia_terms.specs.declared.FormatName.{FormatName}
use Rattle.dia_terms.specs.declared.FormatName.TheVariants as format
use Rattle.dia_terms.specs.declared.MRule.{MRule}
use Rattle.dia_terms.specs.declared.MRule.TheVariants.{Must, MustNot, Any}
use Rattle.dia_terms.specs.declared.Pxy.{Pxy}
use Rattle.dia_terms.specs.declared.Pxy.TheVariants.{Clear, Set, Either}
use Rattle.dia_ccf.specs.declared.source.Head.{Head}
use Rattle.dia_ccf.specs.declared.source.Head.TheVariants.{Group, Command, Error}
use Rattle.dia_ccf.specs.declared.source.Decl.{Decl}
use Rattle.dia_ccf.specs.Names.{is_name, is_name_run, is_number, is_number_or_none, is_range, fits_values, is_head, same_bytes}
use Rattle.dia_ccf.specs.Plain.{plain_decl}
use Rattle.dia_ccf.specs.Tokens.{Open_bracket, Close_bracket, Open_parenthesis, Close_parenthesis, Comma, Dots, Colon, Declares, Name, tokens}
use Rattle.dia_ccf.specs.Grammar.{one, word, name, number, each, rule_word, vendor, range, values, declaration, diameter_header, avp_header}
use Rattle.dia_terms.specs.Formats.{format_word}
use Rattle.dia_ccf.specs.Grammar.{comma, flag, application, group_vendor, error_proxy, head, rule}
use Rattle.dia_ccf.specs.Limits.{max_number, max_command_code, max_value}
use Rattle.dia_ccf.specs.CanonicalText.{line_feed, range_text, values_text, vendor_text, declaration_line, flag_text, application_text, error_proxy_text}
use Rattle.dia_ccf.specs.CanonicalText.{head_text}
use Rattle.dia_ccf.proofs.TokensOfTexts.{starts_run}
use Rattle.dia_ccf.proofs.TextsOfClasses.{Reads, Anything, NoRun, reads_then, reads_after_space, reads_before_space, reads_before_feed, reads_narrower}
use Rattle.dia_ccf.proofs.TextsOfClasses.{reads_wider, reads_same, reads_number, reads_word, reads_keyword, reads_nothing}

-- ---- names and numbers

pub reads_name : (text : List ℕ) → is_name text ≡ true → Reads NoRun (name text) text
reads_name text named =
    let run = (and_parts (is_name_run text) (nat_le (length text) 128) (and_parts (is_name_run text && nat_le (length text) 128) (not (same_bytes text (codes "AVP"))) named).0).0 in
    let p = reads_word text run in
    record { tokens = p.tokens; derived = (named, p.derived); read = p.read }

pub reads_number_32 : (n : ℕ) → is_number n ≡ true → Reads NoRun (number max_number n) (decimal n)
reads_number_32 n small = let below = ltb-true n 4294967296 small in reads_number max_number n (omega arith) (omega arith)

-- what follows a text that is empty, or that begins with no byte of a run
abbrev KeepsNoRun : List ℕ → Type 0
KeepsNoRun text = (rest : List ℕ) → NoRun rest → NoRun (text ++ rest)

keeps_then : (a b : List ℕ) → KeepsNoRun a → ((rest : List ℕ) → NoRun (b ++ rest)) → (rest : List ℕ) → NoRun ((a ++ b) ++ rest)
keeps_then a b keeps starts rest = rw append_assoc (keeps (b ++ rest) (starts rest))

keeps-append : (a b : List ℕ) → KeepsNoRun a → KeepsNoRun b → KeepsNoRun (a ++ b)
keeps-append a b first second rest ends = rw append_assoc (first (b ++ rest) (second rest ends))

-- ---- declarations

reads_declares : Reads Anything (one Declares) (codes "%avp ")
reads_declares = record { tokens = Declares ∷ []; derived = refl; read = λ rest may. refl }

reads_vendor_word : Reads Anything (word (codes "vendor")) (codes " vendor ")
reads_vendor_word = record { tokens = Name (codes "vendor") ∷ []; derived = refl; read = λ rest may. refl }

reads_vendor : (n : ℕ) → is_number n ≡ true → Reads NoRun (vendor n) (vendor_text n)
reads_vendor n small =
    elim (eqb n 0) as (λ t. eqb n 0 ≡ t → Reads NoRun (vendor n) (cond t [] (codes " vendor " ++ decimal n))) [
      | true ↦ λ zero. record { tokens = []; derived = inl (refl, eqb-true n 0 zero); read = λ rest ends. refl }
      | false ↦ λ _. reads_wider (vendor n) (λ ts d. inr d) (reads_then reads_vendor_word (reads_number_32 n small) (λ rest ends. tt))
    ] refl

vendor-keeps : (n : ℕ) → KeepsNoRun (vendor_text n)
vendor-keeps n rest ends = elim (eqb n 0) as (λ t. starts_run (cond t [] (codes " vendor " ++ decimal n) ++ rest) ≡ false) [ true ↦ ends | false ↦ refl ]

reads_dots : Reads Anything (one Dots) (codes "..")
reads_dots = record { tokens = Dots ∷ []; derived = refl; read = λ rest may. refl }

reads_value : (n : ℕ) → n < 2147483648 → Reads NoRun (number max_value n) (decimal n)
reads_value n small = reads_number max_value n (omega arith) (omega arith)

reads_range : (r : ℕ × ℕ) → is_range r ≡ true → Reads Anything (range r) (range_text r ++ codes " ")
reads_range r ranged =
    let parts = and_parts (nat_le r.0 r.1) (nat_lt r.1 2147483648) ranged in
    let ordered = leb-true r.0 r.1 parts.0 in
    let small = ltb-true r.1 2147483648 parts.1 in
    let low : r.0 < 2147483648 = omega arith in
    elim (eqb r.0 r.1) as (λ t. eqb r.0 r.1 ≡ t → Reads Anything (range r) (cond t (decimal r.0) (decimal r.0 ++ codes ".." ++ decimal r.1) ++ codes " ")) [
      | true ↦ λ same. reads_wider (range r) (λ ts d. (ordered, inl (eqb-true r.0 r.1 same, d))) (reads_before_space (reads_value r.0 low))
      | false ↦ λ _. reads_wider (range r) (λ ts d. (ordered, inr d)) (reads_before_space
          (reads_same (decimal r.0 ++ codes ".." ++ decimal r.1) (append_assoc (decimal r.0) (codes "..") (decimal r.1))
          (reads_then (reads_value r.0 low) (reads_then reads_dots (reads_value r.1 small) (λ rest ends. tt)) (λ rest ends. refl))))
    ] refl

reads_ranges : (rs : List (ℕ × ℕ)) → list_all is_range rs ≡ true → Reads Anything (each range rs) (flat_map (λ r. range_text r ++ codes " ") rs)
reads_ranges [] all = reads_nothing
reads_ranges (r ∷ rs) all =
    let parts = and_parts (is_range r) (list_all is_range rs) all in
    reads_then (reads_range r parts.0) (reads_ranges rs parts.1) (λ rest may. tt)

reads_open_parenthesis : Reads Anything (one Open_parenthesis) (codes " ( ")
reads_open_parenthesis = record { tokens = Open_parenthesis ∷ []; derived = refl; read = λ rest may. refl }

reads_close_parenthesis : Reads Anything (one Close_parenthesis) (codes ")")
reads_close_parenthesis = record { tokens = Close_parenthesis ∷ []; derived = refl; read = λ rest may. refl }

reads_list : (rs : List (ℕ × ℕ)) → (nat_lt 0 (length rs) && list_all is_range rs) ≡ true → Reads NoRun (values format.Enumerated (Some rs)) (values_text (Some rs))
reads_list [] listed = cc
reads_list (r ∷ rs) listed =
    let parts = and_parts (nat_lt 0 (length (r ∷ rs))) (list_all is_range (r ∷ rs)) listed in
    let ranges = flat_map (λ r. range_text r ++ codes " ") (r ∷ rs) in
    reads_same (codes " ( " ++ ranges ++ codes ")") (append_assoc (codes " ( ") ranges (codes ")"))
    (reads_narrower (reads_then reads_open_parenthesis (reads_then (reads_ranges (r ∷ rs) parts.1) reads_close_parenthesis (λ rest may. tt)) (λ rest may. tt)))

reads_values : (f : FormatName) (vs : Option (Vec (ℕ × ℕ) Global)) → fits_values f vs ≡ true → Reads NoRun (values f (option_map (λ v. v.items) vs)) (values_text (option_map (λ v. v.items) vs))
reads_values f None listed = reads_nothing
reads_values format.Enumerated (Some v) listed = reads_list v.items listed
reads_values f (Some v) listed = cc

values-keeps : (vs : Option (List (ℕ × ℕ))) → KeepsNoRun (values_text vs)
values-keeps None rest ends = ends
values-keeps (Some rs) rest ends = refl

format_word_is_name : (f : FormatName) → is_name_run (format_word f) ≡ true
format_word_is_name format.OctetString = refl
format_word_is_name f = refl

rule_word_is_name : (r : MRule) → is_name_run (rule_word r) ≡ true
rule_word_is_name Must = refl
rule_word_is_name MustNot = refl
rule_word_is_name Any = refl

declaration-regroup : (a n s c v f r vs l : List ℕ) → a ++ n ++ s ++ c ++ v ++ s ++ f ++ s ++ r ++ vs ++ l ≡ a ++ (n ++ (s ++ (c ++ (v ++ (s ++ (f ++ (s ++ (r ++ (vs ++ l)))))))))
declaration-regroup a n s c v f r vs l = simp append_assoc

pub reads_declaration : (d : Decl) → Reads Anything (declaration (plain_decl d)) (declaration_line (plain_decl d))
reads_declaration d =
    let p = plain_decl d in
    let numbers = and_parts (is_number d.code) (is_number d.vendor) d.numbered in
    reads_same (declaration_line p) (declaration-regroup (codes "%avp ") p.name (codes " ") (decimal p.code)
    (vendor_text p.vendor) (format_word p.format) (rule_word p.rule) (values_text p.values) line_feed)
    (reads_then reads_declares
    (reads_then (reads_name p.name d.named)
    (reads_after_space (reads_then (reads_number_32 p.code numbers.0)
    (reads_then (reads_vendor p.vendor numbers.1)
    (reads_after_space (reads_then (reads_word (format_word p.format) (format_word_is_name p.format))
    (reads_after_space (reads_then (reads_word (rule_word p.rule) (rule_word_is_name p.rule))
    (reads_before_feed (reads_values p.format d.values d.listed))
    (λ rest may. keeps_then (values_text p.values) line_feed (values-keeps p.values) (λ rest. refl) rest)))
    (λ rest may. refl)))
    (λ rest may. refl))
    (λ rest may. keeps_then (vendor_text p.vendor) _ (vendor-keeps p.vendor) (λ rest. refl) rest)))
    (λ rest may. refl))
    (λ rest may. tt))

-- ---- heads

reads_avp_header : Reads Anything avp_header (codes "AVP Header: ")
reads_avp_header = record {
  tokens = Name (codes "AVP") ∷ Name (codes "Header") ∷ Colon ∷ [];
  derived = (
    Name (codes "AVP") ∷ Name (codes "Header") ∷ [],
    Colon ∷ [],
    refl,
    inl (Name (codes "AVP") ∷ [], Name (codes "Header") ∷ [], refl, (codes "AVP", refl, refl), (codes "Header", refl, refl)),
    refl,
  );
  read = λ rest may. refl;
}

reads_diameter_header : Reads Anything diameter_header (codes "Diameter Header: ")
reads_diameter_header = record {
  tokens = Name (codes "Diameter") ∷ Name (codes "Header") ∷ Colon ∷ [];
  derived = (
    Name (codes "Diameter") ∷ Name (codes "Header") ∷ [],
    Colon ∷ [],
    refl,
    inl (Name (codes "Diameter") ∷ [], Name (codes "Header") ∷ [], refl, (codes "Diameter", refl, refl), (codes "Header", refl, refl)),
    refl,
  );
  read = λ rest may. refl;
}

reads_comma : Reads Anything comma (codes ", ")
reads_comma = record { tokens = Comma ∷ []; derived = inr refl; read = λ rest may. refl }

reads_group_vendor : (n : ℕ) → is_number n ≡ true → Reads NoRun (group_vendor n) (cond (eqb n 0) [] (codes " " ++ decimal n))
reads_group_vendor n small =
    elim (eqb n 0) as (λ t. eqb n 0 ≡ t → Reads NoRun (group_vendor n) (cond t [] (codes " " ++ decimal n))) [
      | true ↦ λ zero. record { tokens = []; derived = inl (refl, eqb-true n 0 zero); read = λ rest ends. refl }
      | false ↦ λ _. reads_wider (group_vendor n) (λ ts d. inr ([], ts, refl, inl refl, d)) (reads_after_space (reads_number_32 n small))
    ] refl

group_vendor-keeps : (n : ℕ) → KeepsNoRun (cond (eqb n 0) [] (codes " " ++ decimal n))
group_vendor-keeps n rest ends = elim (eqb n 0) as (λ t. starts_run (cond t [] (codes " " ++ decimal n) ++ rest) ≡ false) [ true ↦ ends | false ↦ refl ]

reads_request : (set : Bool) → Reads NoRun (flag set (codes "req")) (flag_text set (codes ", REQ"))
reads_request false = reads_nothing
reads_request true = reads_then reads_comma (reads_keyword (codes "req") (codes "REQ") refl refl) (λ rest ends. tt)

reads_proxiable : (set : Bool) → Reads NoRun (flag set (codes "pxy")) (flag_text set (codes ", PXY"))
reads_proxiable false = reads_nothing
reads_proxiable true = reads_then reads_comma (reads_keyword (codes "pxy") (codes "PXY") refl refl) (λ rest ends. tt)

request-keeps : (set : Bool) → KeepsNoRun (flag_text set (codes ", REQ"))
request-keeps false rest ends = ends
request-keeps true rest ends = refl

proxiable-keeps : (set : Bool) → KeepsNoRun (flag_text set (codes ", PXY"))
proxiable-keeps false rest ends = ends
proxiable-keeps true rest ends = refl

reads_application : (app : Option ℕ) → is_number_or_none app ≡ true → Reads NoRun (application app) (application_text app)
reads_application None small = reads_nothing
reads_application (Some n) small = reads_then reads_comma (reads_number_32 n small) (λ rest ends. tt)

application-keeps : (app : Option ℕ) → KeepsNoRun (application_text app)
application-keeps None rest ends = ends
application-keeps (Some n) rest ends = refl

reads_open_bracket : Reads Anything (one Open_bracket) (codes " [")
reads_open_bracket = record { tokens = Open_bracket ∷ []; derived = refl; read = λ rest may. refl }

reads_close_bracket : Reads Anything (one Close_bracket) (codes "]")
reads_close_bracket = record { tokens = Close_bracket ∷ []; derived = refl; read = λ rest may. refl }

reads_error_proxy : (pxy : Pxy) → Reads NoRun (error_proxy pxy) (error_proxy_text pxy)
reads_error_proxy Clear = reads_nothing
reads_error_proxy Set = reads_then reads_comma (reads_keyword (codes "pxy") (codes "PXY") refl refl) (λ rest ends. tt)
reads_error_proxy Either =
    reads_then reads_open_bracket
    (reads_then reads_comma
    (reads_then (reads_keyword (codes "pxy") (codes "PXY") refl refl) (reads_narrower reads_close_bracket) (λ rest ends. refl))
    (λ rest ends. tt))
    (λ rest ends. tt)

error_proxy-keeps : (pxy : Pxy) → KeepsNoRun (error_proxy_text pxy)
error_proxy-keeps Clear rest ends = ends
error_proxy-keeps Set rest ends = refl
error_proxy-keeps Either rest ends = refl

command-regroup : (h c r p a : List ℕ) → h ++ c ++ r ++ p ++ a ≡ h ++ (c ++ (r ++ (p ++ a)))
command-regroup h c r p a = simp append_assoc

pub reads_head : (h : Head) → is_head h ≡ true → Reads NoRun (head h) (head_text h)
reads_head (Group code n) fits =
    let parts = and_parts (is_number code) (is_number n) fits in
    reads_same (head_text (Group code n)) (append_assoc (codes "AVP Header: ") (decimal code) _)
    (reads_then reads_avp_header
    (reads_then (reads_number_32 code parts.0) (reads_group_vendor n parts.1) (group_vendor-keeps n))
    (λ rest ends. tt))
reads_head (Command code request pxy app) fits =
    let parts = and_parts (nat_lt code 16777216) (is_number_or_none app) fits in
    let small = ltb-true code 16777216 parts.0 in
    let r = flag_text request (codes ", REQ") in
    let p = flag_text pxy (codes ", PXY") in
    let a = application_text app in
    let last = keeps-append p a (proxiable-keeps pxy) (application-keeps app) in
    reads_same (head_text (Command code request pxy app)) (command-regroup (codes "Diameter Header: ") (decimal code) r p a)
    (reads_then reads_diameter_header
    (reads_then (reads_number max_command_code code (omega arith) (omega arith))
    (reads_then (reads_request request)
    (reads_then (reads_proxiable pxy) (reads_application app parts.1) (application-keeps app))
    last)
    (keeps-append r (p ++ a) (request-keeps request) last))
    (λ rest ends. tt))
reads_head (Error pxy) fits =
    reads_then reads_diameter_header
    (reads_then (reads_keyword (codes "code") (codes "code") refl refl)
    (reads_then reads_comma
    (reads_then (reads_keyword (codes "err") (codes "ERR") refl refl) (reads_error_proxy pxy) (error_proxy-keeps pxy))
    (λ rest ends. tt))
    (λ rest ends. refl))
    (λ rest ends. tt)
