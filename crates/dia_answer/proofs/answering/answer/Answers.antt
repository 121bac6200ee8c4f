use Rattle.std.proofs.Common.{◌≡◌, ◌<◌, ◌^◌, Ok, Err, Some, refl, sym, ap, subst}
use Rattle.dia_wire.specs.declared.Header.{Header}
use Rattle.dia_wire.specs.Number.{IsField}
use Rattle.dia_wire.specs.Wire.{HasR}
use Rattle.dia_check.specs.declared.Fault.{Fault}
use Rattle.dia_check.specs.declared.Refusal.{Refusal}
use Rattle.dia_check.specs.declared.Refusal.TheVariants.{Trailing, Truncated}
use Rattle.dia_check.specs.Faults.{IsAnswer, IsRecorded}
use Rattle.dia_answer.specs.declared.forms.Made.{Made}
use Rattle.dia_answer.specs.declared.forms.NoAnswer.TheVariants as no_answer
use Rattle.dia_answer.specs.declared.names.Names.{Names}
use Rattle.dia_answer.specs.Bodies.{origin_host, origin_realm, result_code}
use Rattle.dia_answer.specs.Helds.{plains}
use Rattle.dia_answer.specs.Requests.{AreRequestAvps}
use Rattle.dia_answer.specs.Reports.{AreTried, HasBody, HasCopies, HasFailed, HasFirstForm, HasOne, IsAnswerOf, IsAnswered, IsProcessed, IsValidBy, attempts_for, form_dictionary}
use Rattle.dia_answer.proofs.Answers.{OnMade-map, made_is_valid}
use Rattle.dia_answer.proofs.Results.{answered_of, are_contents, made_body, made_copies, made_failed, made_first, made_origin_host, made_origin_realm, made_processed, made_result_code, on_too_long, recorded_code}
use Rattle.dia_answer.proofs.OneAnswer.{too_long_only}
use Rattle.dia_answer.proofs.Reasons.{no_reason, one_reason}
use Rattle.dia_answer.proofs.answering.answer.Goals as goal

pub returns-in_ok-contents-in-Err-Fault-clause-valid : goal.returns-in_ok-contents-in-Err-Fault-clause-valid
returns-in_ok-contents-in-Err-Fault-clause-valid g c =
    let d = g.B.Book.meaning c.args.book.now in
    let contents = c.in_ok-contents-in-Err-Fault.contents in
    let same = c.in_ok-contents-in-Err-Fault.ensures.same in
    OnMade-map (IsAnswerOf d contents) (λ (made : Made). IsValidBy d c.args.unknown c.args.levels made.form made.bytes.items)
    (λ made h. made_is_valid d contents made c.args.unknown c.args.levels same.2 same.3 h) c.report.result c.report.ensures.made

pub returns-in_ok-contents-in-Err-Fault-clause-result_code : goal.returns-in_ok-contents-in-Err-Fault-clause-result_code
returns-in_ok-contents-in-Err-Fault-clause-result_code g c =
    let d = g.B.Book.meaning c.args.book.now in
    let contents = c.in_ok-contents-in-Err-Fault.contents in
    let recorded : IsRecorded d c.args.unknown c.args.levels c.args.bytes.now c.in-Err-Fault.fault =
    subst (λ (e : Refusal). IsAnswer d c.args.unknown c.args.levels c.args.bytes.now (Err e)) c.in-Err-Fault.field-0-is c.in-Err-Fault.ensures.answer in
    let small : contents.fault.code < 2 ^ 32 =
    subst (λ (f : Fault). f.code < 2 ^ 32) (sym c.in_ok-contents-in-Err-Fault.ensures.same.0) (recorded_code d c.args.unknown c.args.levels c.args.bytes.now c.in-Err-Fault.fault recorded) in
    OnMade-map (IsAnswerOf d contents) (λ (made : Made). HasOne result_code (IsField 4 made.fault.code) made.bytes.items) (λ made h. made_result_code d contents made small h) c.report.result c.report.ensures.made

pub returns-in_ok-contents-in-Err-Fault-clause-origin_host : goal.returns-in_ok-contents-in-Err-Fault-clause-origin_host
returns-in_ok-contents-in-Err-Fault-clause-origin_host g c =
    let d = g.B.Book.meaning c.args.book.now in
    let contents = c.in_ok-contents-in-Err-Fault.contents in
    let host = c.args.names.now.host.now in
    let is : contents.names.host.now ≡ host = ap (λ (n : Names). n.host.now) c.in_ok-contents-in-Err-Fault.ensures.same.4 in
    OnMade-map (IsAnswerOf d contents) (λ (made : Made). HasOne origin_host (λ b. b ≡ host) made.bytes.items) (λ made h. made_origin_host d contents made host is h) c.report.result c.report.ensures.made

pub returns-in_ok-contents-in-Err-Fault-clause-origin_realm : goal.returns-in_ok-contents-in-Err-Fault-clause-origin_realm
returns-in_ok-contents-in-Err-Fault-clause-origin_realm g c =
    let d = g.B.Book.meaning c.args.book.now in
    let contents = c.in_ok-contents-in-Err-Fault.contents in
    let realm = c.args.names.now.realm.now in
    let is : contents.names.realm.now ≡ realm = ap (λ (n : Names). n.realm.now) c.in_ok-contents-in-Err-Fault.ensures.same.4 in
    OnMade-map (IsAnswerOf d contents) (λ (made : Made). HasOne origin_realm (λ b. b ≡ realm) made.bytes.items) (λ made h. made_origin_realm d contents made realm is h) c.report.result c.report.ensures.made

pub returns-in_ok-contents-in-Err-Fault-clause-copies : goal.returns-in_ok-contents-in-Err-Fault-clause-copies
returns-in_ok-contents-in-Err-Fault-clause-copies g c =
    let d = g.B.Book.meaning c.args.book.now in
    let request = c.args.bytes.now in
    let contents = c.in_ok-contents-in-Err-Fault.contents in
    let kept = c.in_ok-contents-in-Err-Fault.ensures in
    let reads = subst (λ (f : Fault). AreRequestAvps f.reason (plains contents.request.items) request) (sym kept.same.0) kept.request in
    OnMade-map (IsAnswerOf d contents) (λ (made : Made). HasCopies (form_dictionary made.form d) c.args.unknown c.args.levels made.fault.reason request made.bytes.items)
    (λ made h. made_copies d c.args.unknown c.args.levels request contents made kept.same.2 kept.same.3 reads h) c.report.result c.report.ensures.made

pub returns-in_ok-contents-in-Err-Fault-clause-failed_avp : goal.returns-in_ok-contents-in-Err-Fault-clause-failed_avp
returns-in_ok-contents-in-Err-Fault-clause-failed_avp g c =
    let d = g.B.Book.meaning c.args.book.now in
    let u = c.args.unknown in
    let most = c.args.levels in
    let request = c.args.bytes.now in
    let names = c.args.names.now in
    let contents = c.in_ok-contents-in-Err-Fault.contents in
    let kept = c.in_ok-contents-in-Err-Fault.ensures in
    let are = are_contents d u most names request c.in-Some.header c.in-Err-Fault.fault contents kept.same c.in-Some.ensures.reads kept.request kept.failed kept.line in
    OnMade-map (IsAnswerOf d contents) (HasFailed d request) (made_failed d u most names.host.now names.realm.now request contents are) c.report.result c.report.ensures.made

pub returns-in_ok-contents-in-Err-Fault-clause-body : goal.returns-in_ok-contents-in-Err-Fault-clause-body
returns-in_ok-contents-in-Err-Fault-clause-body g c =
    let d = g.B.Book.meaning c.args.book.now in
    let u = c.args.unknown in
    let most = c.args.levels in
    let request = c.args.bytes.now in
    let names = c.args.names.now in
    let contents = c.in_ok-contents-in-Err-Fault.contents in
    let kept = c.in_ok-contents-in-Err-Fault.ensures in
    let are = are_contents d u most names request c.in-Some.header c.in-Err-Fault.fault contents kept.same c.in-Some.ensures.reads kept.request kept.failed kept.line in
    OnMade-map (IsAnswerOf d contents) (HasBody d u most names.host.now names.realm.now request) (made_body d u most names.host.now names.realm.now request contents are) c.report.result c.report.ensures.made

pub returns-in_ok-contents-in-Err-Fault-clause-first : goal.returns-in_ok-contents-in-Err-Fault-clause-first
returns-in_ok-contents-in-Err-Fault-clause-first g c =
    let d = g.B.Book.meaning c.args.book.now in
    let u = c.args.unknown in
    let most = c.args.levels in
    let request = c.args.bytes.now in
    let names = c.args.names.now in
    let contents = c.in_ok-contents-in-Err-Fault.contents in
    let kept = c.in_ok-contents-in-Err-Fault.ensures in
    let are = are_contents d u most names request c.in-Some.header c.in-Err-Fault.fault contents kept.same c.in-Some.ensures.reads kept.request kept.failed kept.line in
    OnMade-map (λ (made : Made). AreTried d contents (attempts_for contents.fault.code) (Some made)) (HasFirstForm d u most names.host.now names.realm.now request)
    (made_first d u most names.host.now names.realm.now request contents are) c.report.result c.report.ensures.first

pub returns-in_ok-contents-in-Err-Fault-clause-too_long : goal.returns-in_ok-contents-in-Err-Fault-clause-too_long
returns-in_ok-contents-in-Err-Fault-clause-too_long g c is =
    let d = g.B.Book.meaning c.args.book.now in
    let u = c.args.unknown in
    let most = c.args.levels in
    let request = c.args.bytes.now in
    let names = c.args.names.now in
    let contents = c.in_ok-contents-in-Err-Fault.contents in
    let kept = c.in_ok-contents-in-Err-Fault.ensures in
    let are = are_contents d u most names request c.in-Some.header c.in-Err-Fault.fault contents kept.same c.in-Some.ensures.reads kept.request kept.failed kept.line in
    let recorded : IsRecorded d u most request c.in-Err-Fault.fault = subst (λ (e : Refusal). IsAnswer d u most request (Err e)) c.in-Err-Fault.field-0-is c.in-Err-Fault.ensures.answer in
    let here : IsRecorded d u most request contents.fault = subst (λ (f : Fault). IsRecorded d u most request f) (sym kept.same.0) recorded in
    let is_request : HasR contents.header.flags = subst (λ (h : Header). HasR h.flags) (sym kept.same.1) (c.is_request.ensures.0 c.if-not-is_request.false) in
    let answered = answered_of d u most names.host.now names.realm.now request contents are is_request here c.report.result c.report.ensures.first c.report.ensures.none in
    on_too_long c.report.result (IsAnswered d u most names.host.now names.realm.now request) answered (λ h. h) is

pub returns-in_ok-contents-in-Err-Fault-clause-too_long_only : goal.returns-in_ok-contents-in-Err-Fault-clause-too_long_only
returns-in_ok-contents-in-Err-Fault-clause-too_long_only g c h =
    let d = g.B.Book.meaning c.args.book.now in
    let u = c.args.unknown in
    let most = c.args.levels in
    let request = c.args.bytes.now in
    let names = c.args.names.now in
    let contents = c.in_ok-contents-in-Err-Fault.contents in
    let kept = c.in_ok-contents-in-Err-Fault.ensures in
    let are = are_contents d u most names request c.in-Some.header c.in-Err-Fault.fault contents kept.same c.in-Some.ensures.reads kept.request kept.failed kept.line in
    let recorded : IsRecorded d u most request c.in-Err-Fault.fault = subst (λ (e : Refusal). IsAnswer d u most request (Err e)) c.in-Err-Fault.field-0-is c.in-Err-Fault.ensures.answer in
    let here : IsRecorded d u most request contents.fault = subst (λ (f : Fault). IsRecorded d u most request f) (sym kept.same.0) recorded in
    let is_request : HasR contents.header.flags = subst (λ (h : Header). HasR h.flags) (sym kept.same.1) (c.is_request.ensures.0 c.if-not-is_request.false) in
    let answered = answered_of d u most names.host.now names.realm.now request contents are is_request here c.report.result c.report.ensures.first c.report.ensures.none in
    too_long_only d u most names.host.now names.realm.now request (g.met.B.Book.sound c.args.book.now) c.report.result answered h

pub returns-in_ok-contents-in-Err-Fault-clause-answered : goal.returns-in_ok-contents-in-Err-Fault-clause-answered
returns-in_ok-contents-in-Err-Fault-clause-answered g c =
    let d = g.B.Book.meaning c.args.book.now in
    let u = c.args.unknown in
    let most = c.args.levels in
    let request = c.args.bytes.now in
    let names = c.args.names.now in
    let contents = c.in_ok-contents-in-Err-Fault.contents in
    let kept = c.in_ok-contents-in-Err-Fault.ensures in
    let are = are_contents d u most names request c.in-Some.header c.in-Err-Fault.fault contents kept.same c.in-Some.ensures.reads kept.request kept.failed kept.line in
    let recorded : IsRecorded d u most request c.in-Err-Fault.fault = subst (λ (e : Refusal). IsAnswer d u most request (Err e)) c.in-Err-Fault.field-0-is c.in-Err-Fault.ensures.answer in
    let here : IsRecorded d u most request contents.fault = subst (λ (f : Fault). IsRecorded d u most request f) (sym kept.same.0) recorded in
    let is_request : HasR contents.header.flags = subst (λ (h : Header). HasR h.flags) (sym kept.same.1) (c.is_request.ensures.0 c.if-not-is_request.false) in
    let answered = answered_of d u most names.host.now names.realm.now request contents are is_request here c.report.result c.report.ensures.first c.report.ensures.none in
    answered

pub returns-in_ok-contents-in-Err-Fault-clause-exact : goal.returns-in_ok-contents-in-Err-Fault-clause-exact
returns-in_ok-contents-in-Err-Fault-clause-exact g c why other h =
    let d = g.B.Book.meaning c.args.book.now in
    let recorded : IsRecorded d c.args.unknown c.args.levels c.args.bytes.now c.in-Err-Fault.fault =
    subst (λ (e : Refusal). IsAnswer d c.args.unknown c.args.levels c.args.bytes.now (Err e)) c.in-Err-Fault.field-0-is c.in-Err-Fault.ensures.answer in
    let reads = c.in-Some.ensures.reads in
    let is_request = subst HasR reads.flags (c.is_request.ensures.0 c.if-not-is_request.false) in
    absurd (no_reason d c.args.unknown c.args.levels c.args.bytes.now c.in-Err-Fault.fault (g.met.B.Book.sound c.args.book.now) recorded reads.long is_request why other h)

pub returns-in-Ok-clause-exact : goal.returns-in-Ok-clause-exact
returns-in-Ok-clause-exact g c =
    let reads = c.in-Some.ensures.reads in
    let is_request = subst HasR reads.flags (c.is_request.ensures.0 c.if-not-is_request.false) in
    one_reason (g.B.Book.meaning c.args.book.now) c.args.unknown c.args.levels c.args.bytes.now (Ok c.in-Ok.field-0) no_answer.Valid (g.met.B.Book.sound c.args.book.now) c.in-Ok.ensures.answer (λ e. absurd cc) reads.long is_request refl

pub returns-in-Err-Truncated-clause-exact : goal.returns-in-Err-Truncated-clause-exact
returns-in-Err-Truncated-clause-exact g c =
    let d = g.B.Book.meaning c.args.book.now in
    let answer = subst (λ (e : Refusal). IsAnswer d c.args.unknown c.args.levels c.args.bytes.now (Err e)) c.in-Err-Truncated.field-0-is c.in-Err-Truncated.ensures.answer in
    let reads = c.in-Some.ensures.reads in
    let is_request = subst HasR reads.flags (c.is_request.ensures.0 c.if-not-is_request.false) in
    one_reason d c.args.unknown c.args.levels c.args.bytes.now (Err Truncated) no_answer.Truncated (g.met.B.Book.sound c.args.book.now) answer (λ e. absurd cc) reads.long is_request refl

pub returns-in-Err-Trailing-clause-exact : goal.returns-in-Err-Trailing-clause-exact
returns-in-Err-Trailing-clause-exact g c =
    let d = g.B.Book.meaning c.args.book.now in
    let answer = subst (λ (e : Refusal). IsAnswer d c.args.unknown c.args.levels c.args.bytes.now (Err e)) c.in-Err-Trailing.field-0-is c.in-Err-Trailing.ensures.answer in
    let reads = c.in-Some.ensures.reads in
    let is_request = subst HasR reads.flags (c.is_request.ensures.0 c.if-not-is_request.false) in
    one_reason d c.args.unknown c.args.levels c.args.bytes.now (Err Trailing) no_answer.Trailing (g.met.B.Book.sound c.args.book.now) answer (λ e. absurd cc) reads.long is_request refl

pub returns-in_ok-contents-in-Err-Fault-clause-processed : goal.returns-in_ok-contents-in-Err-Fault-clause-processed
returns-in_ok-contents-in-Err-Fault-clause-processed g c =
    let d = g.B.Book.meaning c.args.book.now in
    let request = c.args.bytes.now in
    let contents = c.in_ok-contents-in-Err-Fault.contents in
    let kept = c.in_ok-contents-in-Err-Fault.ensures in
    let reads = c.in-Some.ensures.reads in
    let is_request = c.is_request.ensures.0 c.if-not-is_request.false in
    OnMade-map (IsAnswerOf d contents) (λ (made : Made). IsProcessed request made.fault.code made.form made.bytes.items) (λ made h. made_processed d contents made request c.in-Some.header kept.same.1 reads is_request h) c.report.result c.report.ensures.made

pub returns-in-Ok-clause-too_long_only : goal.returns-in-Ok-clause-too_long_only
returns-in-Ok-clause-too_long_only g c h =
    let d = g.B.Book.meaning c.args.book.now in
    let bytes = c.args.bytes.now in
    let names = c.args.names.now in
    let reads = c.in-Some.ensures.reads in
    let is_request = c.is_request.ensures.0 c.if-not-is_request.false in
    too_long_only d c.args.unknown c.args.levels names.host.now names.realm.now bytes (g.met.B.Book.sound c.args.book.now) (Ok (Err no_answer.Valid)) ((c.in-Some.header, reads, is_request), (c.in-Ok.field-0.def, c.in-Ok.ensures.answer)) h
