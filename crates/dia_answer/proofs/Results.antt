-- What an answer says of the fault, of the sender and of the request, by the AVPs that it is made of.
use Rattle.std.proofs.Common.{◌≡◌, ℕ, Some, None, ◌<◌, ◌^◌, List, inl, inr, refl, sym, ap, subst, ◌∙◌, arith}
use Rattle.std.specs.Prelude.{string_bytes, IfErr, IfOk, Result, Ok, Err}
use Rattle.std.specs.declared.alloc.AllocError.{AllocError}
use Rattle.std.specs.Option.{option_map}
use Rattle.std.proofs.lemmas.Str.{IsUtf8-string_bytes}
use Rattle.byteorder.specs.Endian.{big_bytes}
use Rattle.dia_wire.specs.Number.{IsField}
use Rattle.dia_wire.specs.declared.Header.{Header}
use Rattle.dia_wire.specs.Wire.{HasR, IsMessage}
use Rattle.dia_wire.proofs.Written.{four}
use Rattle.dia_book.specs.Dictionary.{Dictionary}
use Rattle.dia_terms.specs.declared.Unknown.{Unknown}
use Rattle.dia_terms.specs.declared.Levels.{Levels}
use Rattle.dia_check.specs.declared.Fault.{Fault}
use Rattle.dia_check.specs.declared.Reason.{Reason}
use Rattle.dia_check.specs.declared.Reason.TheVariants as reason
use Rattle.dia_check.specs.Reasons.{code_of}
use Rattle.dia_check.specs.Faults.{IsRecorded}
use Rattle.dia_run.specs.Texts.{line}
use Rattle.dia_run.specs.Verdict.{fault_line}
use Rattle.dia_answer.specs.declared.contents.Contents.{Contents}
use Rattle.dia_answer.specs.declared.forms.Made.{Made}
use Rattle.dia_answer.specs.declared.forms.NoAnswer.{NoAnswer}
use Rattle.dia_answer.specs.declared.forms.NoAnswer.TheVariants as no_answer
use Rattle.dia_answer.specs.declared.names.Names.{Names}
use Rattle.dia_answer.specs.Requests.{AreRequestAvps, IsRequestHead}
use Rattle.dia_answer.specs.Stocks.{IsFitOf, own}
use Rattle.dia_answer.specs.Bodies.{AreThose, IsSession, in_order, origin_host, origin_realm, proxy_info, result_code, session_id}
use Rattle.dia_answer.specs.Dictionaries.{failed_avp}
use Rattle.dia_answer.specs.Failed.{IsFailed}
use Rattle.dia_answer.specs.Helds.{plains}
use Rattle.dia_answer.specs.Sources.{in_extent, parts_of}
use Rattle.dia_answer.specs.Reports.{AreParts, AreTried, HasBody, HasCopies, HasFailed, HasFirstForm, HasNoForm, HasOne, IsAnswerOf, IsAnswered, IsByFirst, IsProcessed, OnMade, answer_header, attempts_for, form_dictionary}
use Rattle.dia_answer.proofs.Orders.{order_keeps}
use Rattle.dia_answer.proofs.Stocks.{the_failed, the_origin_host, the_origin_realm, the_proxies, the_result_code, the_session}

reason_code : (r : Reason) → code_of r < 2 ^ 32
reason_code reason.Version = omega arith
reason_code reason.Length = omega arith
reason_code reason.Bits = omega arith
reason_code reason.Command = omega arith
reason_code reason.Application = omega arith
reason_code reason.Proxiable = omega arith
reason_code reason.AvpLength = omega arith
reason_code reason.Unknown = omega arith
reason_code reason.MBit = omega arith
reason_code reason.Missing = omega arith
reason_code reason.NotAllowed = omega arith
reason_code reason.TooMany = omega arith
reason_code reason.LeafLength = omega arith
reason_code reason.LeafValue = omega arith
reason_code reason.Depth = omega arith

-- the code of a fault that is reported fits a field of 4 bytes
pub recorded_code : (d : Dictionary) (u : Unknown) (most : Levels) (bytes : List ℕ) (f : Fault) → IsRecorded d u most bytes f → f.code < 2 ^ 32
recorded_code d u most bytes f (inl h) = subst (λ (n : ℕ). n < 2 ^ 32) (sym (ap (λ (x : Fault). x.code) h.2)) (reason_code reason.Version)
recorded_code d u most bytes f (inr (inl h)) = subst (λ (n : ℕ). n < 2 ^ 32) (sym (ap (λ (x : Fault). x.code) h.3)) (reason_code reason.Length)
recorded_code d u most bytes f (inr (inr h)) = subst (λ (n : ℕ). n < 2 ^ 32) (sym h.1.code) (reason_code f.reason)

the_code : (c : Contents) (n : ℕ) → n ≡ c.fault.code → n < 2 ^ 32 → IsField 4 n c.code
the_code c n same small = subst (λ (b : List ℕ). IsField 4 n b) (ap (big_bytes 4) same ∙ sym c.number) (four n small)

pub made_result_code : (d : Dictionary) (c : Contents) (made : Made) → c.fault.code < 2 ^ 32 → IsAnswerOf d c made → HasOne result_code (IsField 4 made.fault.code) made.bytes.items
made_result_code d c made small h = let by = form_dictionary made.form d in record {
  header = answer_header c.header made.form;
  avps = in_order h.command.rules h.written.stock;
  message = h.written.message.message;
  avp = own by 268 c.code;
  one = order_keeps result_code h.command.rules h.written.stock h.are_rules ∙ the_result_code by made.form h.command.rules (in_extent h.extent (parts_of c)) h.written.stock h.written.is_stock;
  held = the_code c made.fault.code (ap (λ (f : Fault). f.code) h.fault) (subst (λ (f : Fault). f.code < 2 ^ 32) (sym h.fault) small);
}

-- what an answer is made of, by the request and its fault
pub record AreContents (d : Dictionary) (u : Unknown) (most : Levels) (host realm request : List ℕ) (c : Contents) : Type 0 where
  pub head : IsRequestHead c.header request
  pub is_u : c.unknown ≡ u
  pub is_most : c.levels ≡ most
  pub is_host : c.names.host.now ≡ host
  pub is_realm : c.names.realm.now ≡ realm
  pub reads : AreRequestAvps c.fault.reason (plains c.request.items) request
  pub is_line : line (string_bytes c.line) ≡ fault_line d c.fault
  pub is_failed : IsFailed d c.header request c.fault (option_map (λ f. f.items) c.failed)

pub are_contents : (d : Dictionary) (u : Unknown) (most : Levels) (names : Names) (request : List ℕ) (header : Header) (fault : Fault) (c : Contents)
    → (c.fault ≡ fault) × (c.header ≡ header) × (c.unknown ≡ u) × (c.levels ≡ most) × (c.names ≡ names) → IsRequestHead header request → AreRequestAvps fault.reason (plains c.request.items) request
    → IsFailed d header request fault (option_map (λ f. f.items) c.failed) → line (string_bytes c.line) ≡ fault_line d fault → AreContents d u most names.host.now names.realm.now request c
are_contents d u most names request header fault c (is_fault, is_header, is_u, is_most, is_names) head reads failed text = record {
  head = subst (λ (h : Header). IsRequestHead h request) (sym is_header) head;
  is_u = is_u;
  is_most = is_most;
  is_host = ap (λ (n : Names). n.host.now) is_names;
  is_realm = ap (λ (n : Names). n.realm.now) is_names;
  reads = subst (λ (f : Fault). AreRequestAvps f.reason (plains c.request.items) request) (sym is_fault) reads;
  is_line = subst (λ (f : Fault). line (string_bytes c.line) ≡ fault_line d f) (sym is_fault) text;
  is_failed = subst (λ (h : Header). IsFailed d h request c.fault (option_map (λ f. f.items) c.failed)) (sym is_header)
      (subst (λ (f : Fault). IsFailed d header request f (option_map (λ f. f.items) c.failed)) (sym is_fault) failed);
}

module _ (d : Dictionary) (u : Unknown) (most : Levels) (host realm request : List ℕ) (c : Contents) (are : AreContents d u most host realm request c) where
  are_parts_of : (f : Fault) → f ≡ c.fault → AreParts d u most host realm request f (parts_of c)
  are_parts_of f same = record {
    unknown = are.is_u;
    levels = are.is_most;
    reads = subst (λ (x : Fault). AreRequestAvps x.reason (plains c.request.items) request) (sym same) are.reads;
    code = c.number ∙ ap (λ (x : Fault). big_bytes 4 x.code) (sym same);
    is_host = are.is_host;
    is_realm = are.is_realm;
    text = string_bytes c.line;
    has_text = refl;
    is_line = subst (λ (x : Fault). line (string_bytes c.line) ≡ fault_line d x) (sym same) are.is_line;
    is_utf8 = IsUtf8-string_bytes c.line;
    header = c.header;
    is_header = are.head;
    is_failed = subst (λ (x : Fault). IsFailed d c.header request x (option_map (λ f. f.items) c.failed)) (sym same) are.is_failed;
  }

  pub made_body : (made : Made) → IsAnswerOf d c made → HasBody d u most host realm request made
  made_body made h = record {
    header = c.header;
    reads = are.head;
    command = h.command;
    is_command = h.is_command;
    parts = parts_of c;
    are_parts = are_parts_of made.fault h.fault;
    extent = h.extent;
    avps = h.written.stock;
    are_avps = h.written.is_stock;
    message = h.written.message;
  }

  pub made_failed : (made : Made) → IsAnswerOf d c made → HasFailed d request made
  made_failed made h = record {
    header = c.header;
    reads = are.head;
    failed = option_map (λ f. f.items) c.failed;
    is_failed = subst (λ (x : Fault). IsFailed d c.header request x (option_map (λ f. f.items) c.failed)) (sym h.fault) are.is_failed;
    command = h.command;
    is_command = h.is_command;
    extent = h.extent;
    avps = in_order h.command.rules h.written.stock;
    message = h.written.message.message;
    these = order_keeps failed_avp h.command.rules h.written.stock h.are_rules ∙ the_failed (form_dictionary made.form d) made.form h.command.rules (in_extent h.extent (parts_of c)) h.written.stock h.written.is_stock;
  }

  pub made_first : (made : Made) → AreTried d c (attempts_for c.fault.code) (Some made) → HasFirstForm d u most host realm request made
  made_first made h = record {
    header = c.header;
    reads = are.head;
    parts = parts_of c;
    are_parts = are_parts_of made.fault h.0;
    first = subst (λ (f : Fault). IsByFirst d c.header (parts_of c) (attempts_for f.code) made.form made.bytes.items) (sym h.0) h.1;
  }

  none_made : HasR c.header.flags → IsRecorded d u most request c.fault → AreTried d c (attempts_for c.fault.code) None → HasNoForm d u most host realm request
  none_made is_request recorded h = record {
    header = c.header;
    reads = are.head;
    is_request = is_request;
    fault = c.fault;
    recorded = recorded;
    parts = parts_of c;
    are_parts = are_parts_of c.fault refl;
    none = h;
  }

  -- what is answered, by what the forms make
  pub answered_of : HasR c.header.flags → IsRecorded d u most request c.fault → (r : Result (Result Made NoAnswer) AllocError) → OnMade (λ made. AreTried d c (attempts_for c.fault.code) (Some made)) r
      → IfOk r (λ found. IfErr found (λ why. (why ≡ no_answer.TooLong) × AreTried d c (attempts_for c.fault.code) None)) → IfOk r (IsAnswered d u most host realm request)
  answered_of is_request recorded (Ok (Ok made)) first none = record {
    is_request = (c.header, are.head, is_request);
    recorded = subst (λ (f : Fault). IsRecorded d u most request f) (sym first.0) recorded;
    first = made_first made first;
  }
  answered_of is_request recorded (Ok (Err why)) first none = subst (λ (w : NoAnswer). IsAnswered d u most host realm request (Err w)) (sym none.0) (none_made is_request recorded none.1)
  answered_of is_request recorded (Err e) first none = tt

pub made_origin_host : (d : Dictionary) (c : Contents) (made : Made) (host : List ℕ) → c.names.host.now ≡ host → IsAnswerOf d c made → HasOne origin_host (λ b. b ≡ host) made.bytes.items
made_origin_host d c made host is h = let by = form_dictionary made.form d in record {
  header = answer_header c.header made.form;
  avps = in_order h.command.rules h.written.stock;
  message = h.written.message.message;
  avp = own by 264 c.names.host.now;
  one = order_keeps origin_host h.command.rules h.written.stock h.are_rules ∙ the_origin_host by made.form h.command.rules (in_extent h.extent (parts_of c)) h.written.stock h.written.is_stock;
  held = is;
}

pub made_origin_realm : (d : Dictionary) (c : Contents) (made : Made) (realm : List ℕ) → c.names.realm.now ≡ realm → IsAnswerOf d c made → HasOne origin_realm (λ b. b ≡ realm) made.bytes.items
made_origin_realm d c made realm is h = let by = form_dictionary made.form d in record {
  header = answer_header c.header made.form;
  avps = in_order h.command.rules h.written.stock;
  message = h.written.message.message;
  avp = own by 296 c.names.realm.now;
  one = order_keeps origin_realm h.command.rules h.written.stock h.are_rules ∙ the_origin_realm by made.form h.command.rules (in_extent h.extent (parts_of c)) h.written.stock h.written.is_stock;
  held = is;
}

pub made_copies : (d : Dictionary) (u : Unknown) (most : Levels) (request : List ℕ) (c : Contents) (made : Made) → c.unknown ≡ u → c.levels ≡ most → AreRequestAvps c.fault.reason (plains c.request.items) request → IsAnswerOf d c made
    → HasCopies (form_dictionary made.form d) u most made.fault.reason request made.bytes.items
made_copies d u most request c made is_u is_most reads h =
    let by = form_dictionary made.form d in
    let rules = h.command.rules in
    let stock = h.written.stock in
    let found = plains c.request.items in
    let session : IsSession by found h.written.is_stock.session = h.written.is_stock.is_session in
    let proxies : AreThose (IsFitOf by c.unknown c.levels proxy_info) found h.written.is_stock.proxies = h.written.is_stock.are_proxies in record {
      header = answer_header c.header made.form;
      avps = in_order rules stock;
      message = h.written.message.message;
      found = found;
      reads = subst (λ (f : Fault). AreRequestAvps f.reason found request) (sym h.fault) reads;
      session = subst (IsSession by found) (sym (order_keeps session_id rules stock h.are_rules ∙ the_session by made.form rules (in_extent h.extent (parts_of c)) stock h.written.is_stock)) session;
      proxies = h.written.is_stock.proxies;
      are_proxies = subst (λ (l : Levels). AreThose (IsFitOf by u l proxy_info) found h.written.is_stock.proxies) is_most (subst (λ (x : Unknown). AreThose (IsFitOf by x c.levels proxy_info) found h.written.is_stock.proxies) is_u proxies);
      copies = order_keeps proxy_info rules stock h.are_rules ∙ the_proxies by made.form rules (in_extent h.extent (parts_of c)) stock h.written.is_stock;
    }

pub made_processed : (d : Dictionary) (c : Contents) (made : Made) (request : List ℕ) (header : Header) → c.header ≡ header → IsRequestHead header request → HasR header.flags → IsAnswerOf d c made
    → IsProcessed request made.fault.code made.form made.bytes.items
made_processed d c made request header same reads is_request h = record {
  header = header;
  reads = reads;
  is_request = is_request;
  avps = in_order h.command.rules h.written.stock;
  message = subst (λ (k : Header). IsMessage (answer_header k made.form) (in_order h.command.rules h.written.stock) made.bytes.items) same h.written.message.message;
}

-- what is answered where it is that there is no answer of any form
pub on_too_long : {A : Type 0} (r : Result (Result Made NoAnswer) AllocError) (P : Result Made NoAnswer → Type 0) → IfOk r P → (P (Err no_answer.TooLong) → A) → r ≡ Ok (Err no_answer.TooLong) → A
on_too_long (Ok found) P h f e = f (subst P (let same : found ≡ Err no_answer.TooLong = cc in same) h)
on_too_long (Err x) P h f e = absurd cc
