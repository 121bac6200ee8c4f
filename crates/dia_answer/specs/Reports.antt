-- The answer to a request that reports its first fault (RFC 6733 sections 6.2, 7.1.5 and 7.2).
use Rattle.std.specs.Prelude.{◌≡◌, ℕ, ◌/◌, ◌<◌, ◌==◌, ◌⊎◌, bit_and, bit_or, true, if◌then◌else◌, List, [], ◌∷◌, ◌++◌, length, map, IfOk, Option, Some, None, Result, codes, Ok, Err, slice_get, ⊤}
use Rattle.std.specs.List.{list_all, AllByRecursion}
use Rattle.std.specs.Str.{IsUtf8}
use Rattle.byteorder.specs.Endian.{big_bytes}
use Rattle.dia_wire.specs.declared.Key.{Key}
use Rattle.dia_wire.specs.declared.Header.{Header}
use Rattle.dia_wire.specs.Wire.{PlainAvp, HasR, IsMessage, IsTooLong, MessageWithZeros}
use Rattle.dia_book.specs.declared.Class.{Class}
use Rattle.dia_book.specs.declared.Class.TheVariants.{Answer, Error}
use Rattle.dia_book.specs.declared.DRule.{DRule}
use Rattle.dia_book.specs.Dictionary.{AreRules, Dictionary, PlainDefinition, definitions, selected}
use Rattle.dia_dict.specs.Base.{base}
use Rattle.dia_terms.specs.declared.Unknown.{Unknown}
use Rattle.dia_terms.specs.declared.Levels.{Levels}
use Rattle.dia_valid.specs.Valid.{IsValid}
use Rattle.dia_check.specs.declared.Fault.{Fault}
use Rattle.dia_check.specs.declared.Reason.{Reason}
use Rattle.dia_check.specs.declared.Refusal.TheVariants as refusal
use Rattle.dia_check.specs.Faults.{IsAnswer, IsRecorded}
use Rattle.dia_run.specs.Texts.{line}
use Rattle.dia_run.specs.Verdict.{fault_line}
use Rattle.dia_answer.specs.declared.forms.Form.{Form}
use Rattle.dia_answer.specs.declared.forms.Form.TheVariants as form
use Rattle.std.specs.declared.alloc.AllocError.{AllocError}
use Rattle.dia_answer.specs.declared.forms.Made.{Made}
use Rattle.dia_answer.specs.declared.contents.Contents.{Contents}
use Rattle.dia_answer.specs.declared.contents.Extent.{Extent}
use Rattle.dia_answer.specs.declared.contents.Extent.TheVariants as extent
use Rattle.dia_answer.specs.declared.forms.NoAnswer.{NoAnswer}
use Rattle.dia_answer.specs.declared.forms.NoAnswer.TheVariants as no_answer
use Rattle.dia_answer.specs.Contents.{full}
use Rattle.dia_answer.specs.Dictionaries.{failed_avp, opaque}
use Rattle.dia_answer.specs.Failed.{IsFailed}
use Rattle.dia_answer.specs.Requests.{AreBytes, AreRequestAvps, IsRequestHead}
use Rattle.dia_answer.specs.Stocks.{IsFitOf, copied, may_be_unlisted}
use Rattle.dia_answer.specs.Bodies.{AreThose, IsSession, IsStock, Parts, failed_avps, in_order, of_key, proxy_info, session_id}
use Rattle.dia_answer.specs.Sources.{in_extent, parts_of}

-- the class of a form's messages
abbrev pub form_class : Form → Class
form_class form.Own = Answer
form_class f = Error

-- the E flag
abbrev pub form_flags : Form → ℕ
form_flags form.Own = 0
form_flags f = 32

-- the header of an answer: P as in the request, E by the form, all other flags clear, and the request's other fields (section 6.2)
abbrev pub answer_header : Header → Form → Header
answer_header h f = record { flags = bit_or (bit_and h.flags 64) (form_flags f); code = h.code; app = h.app; hop = h.hop; e2e = h.e2e }

-- the dictionary by which an answer is made
abbrev pub form_dictionary : Form → Dictionary → Dictionary
form_dictionary form.Base d = base
form_dictionary f d = d

-- a valid message of it, with Failed-AVP as OctetString
abbrev pub IsValidBy : Dictionary → Unknown → Levels → Form → List ℕ → Type 0
IsValidBy d u most f bytes = IsValid (opaque (form_dictionary f d)) u most bytes

-- the command's own answer is for permanent failures alone
abbrev pub IsFormFor : ℕ → Form → Type 0
IsFormFor code form.Own = code / 1000 ≡ 5
IsFormFor code f = ⊤

-- the answer to the request: its header, and Result-Code
pub record IsProcessed (request : List ℕ) (code : ℕ) (f : Form) (bytes : List ℕ) : Type 0 where
  pub header : Header
  pub reads : IsRequestHead header request
  pub is_request : HasR header.flags
  pub avps : List PlainAvp
  pub message : IsMessage (answer_header header f) avps bytes

-- the message's only AVP of a key has data with P
pub record HasOne (key : Key) (P : List ℕ → Type 0) (bytes : List ℕ) : Type 0 where
  pub header : Header
  pub avps : List PlainAvp
  pub message : IsMessage header avps bytes
  pub avp : PlainAvp
  pub one : of_key key avps ≡ avp ∷ []
  pub held : P avp.bytes

-- what the answer copies of the request: its first Session-Id, if the dictionary takes it, and each Proxy-Info that fits (section 6.2)
pub record HasCopies (d : Dictionary) (u : Unknown) (most : Levels) (r : Reason) (request : List ℕ) (bytes : List ℕ) : Type 0 where
  pub header : Header
  pub avps : List PlainAvp
  pub message : IsMessage header avps bytes
  pub found : List PlainAvp
  pub reads : AreRequestAvps r found request
  pub session : IsSession d found (of_key session_id avps)
  pub proxies : List PlainAvp
  pub are_proxies : AreThose (IsFitOf d u most proxy_info) found proxies
  pub copies : of_key proxy_info avps ≡ map copied proxies

-- the command of a form's messages
abbrev pub IsCommandOf : Dictionary → Header → Form → PlainDefinition → Type 0
IsCommandOf d h f command = (c : ℕ) × (selected d h.code (form_class f) h.app ≡ Some c) × (slice_get (definitions d) c ≡ Some command)

-- what an answer is made of: the fault's code, the names of the node, the line of a check of the request, the request's AVPs, and the data of Failed-AVP, if there is one
pub record AreParts (d : Dictionary) (u : Unknown) (most : Levels) (host realm request : List ℕ) (fault : Fault) (p : Parts) : Type 0 where
  pub unknown : p.unknown ≡ u
  pub levels : p.levels ≡ most
  pub reads : AreRequestAvps fault.reason p.request request
  pub code : p.code ≡ big_bytes 4 fault.code
  pub is_host : p.host ≡ host
  pub is_realm : p.realm ≡ realm
  pub text : List ℕ
  pub has_text : p.line ≡ Some text
  pub is_line : line text ≡ fault_line d fault
  pub is_utf8 : IsUtf8 text
  pub header : Header
  pub is_header : IsRequestHead header request
  pub is_failed : IsFailed d header request fault p.failed

-- all AVPs of the answer, in their order: by the rules of its form's command, with Error-Message and Failed-AVP or without them
pub record HasBody (d : Dictionary) (u : Unknown) (most : Levels) (host realm request : List ℕ) (made : Made) : Type 0 where
  pub header : Header
  pub reads : IsRequestHead header request
  pub command : PlainDefinition
  pub is_command : IsCommandOf (form_dictionary made.form d) header made.form command
  pub parts : Parts
  pub are_parts : AreParts d u most host realm request made.fault parts
  pub extent : Extent
  pub avps : List PlainAvp
  pub are_avps : IsStock (form_dictionary made.form d) made.form command.rules (in_extent extent parts) avps
  pub message : MessageWithZeros (answer_header header made.form) (in_order command.rules avps) made.bytes.items

-- Failed-AVP of the answer (section 7.5): one that holds what there is for the fault, where its form's dictionary and definition take it, unless the answer is one of those without it; else none
pub record HasFailed (d : Dictionary) (request : List ℕ) (made : Made) : Type 0 where
  pub header : Header
  pub reads : IsRequestHead header request
  pub failed : Option (List ℕ)
  pub is_failed : IsFailed d header request made.fault failed
  pub command : PlainDefinition
  pub is_command : IsCommandOf (form_dictionary made.form d) header made.form command
  pub extent : Extent
  pub avps : List PlainAvp
  pub message : IsMessage (answer_header header made.form) avps made.bytes.items
  pub these : of_key failed_avp avps ≡ failed_avps (form_dictionary made.form d) made.form command.rules (full extent failed)

-- ---- which form

-- in the command's own answer each AVP but Error-Message is listed by a rule
abbrev pub IsListed : Form → List DRule → List PlainAvp → Type 0
IsListed form.Own rules avps = list_all (may_be_unlisted rules) avps ≡ true
IsListed f rules avps = ⊤

-- the answer of a form that is made of these parts
pub record IsOfForm (d : Dictionary) (h : Header) (f : Form) (p : Parts) (bytes : List ℕ) : Type 0 where
  pub command : PlainDefinition
  pub is_command : IsCommandOf d h f command
  pub avps : List PlainAvp
  pub are_avps : IsStock d f command.rules p avps
  pub listed : IsListed f command.rules avps
  pub room : ¬ IsTooLong (in_order command.rules avps)
  pub message : MessageWithZeros (answer_header h f) (in_order command.rules avps) bytes
  pub are_bytes : AreBytes bytes
  pub valid : IsValid (opaque d) p.unknown p.levels bytes

-- a form, with Error-Message and Failed-AVP or without them
pub record Attempt : Type 0 where
  pub form : Form
  pub extent : Extent

abbrev pub IsBy : Dictionary → Header → Parts → Attempt → List ℕ → Type 0
IsBy d h p a bytes = IsOfForm (form_dictionary a.form d) h a.form (in_extent a.extent p) bytes

-- there is no such answer
abbrev pub HasNoneBy : Dictionary → Header → Parts → Attempt → Type 0
HasNoneBy d h p a = (bytes : List ℕ) → ¬ IsBy d h p a bytes

-- the forms, in the order in which they are tried; the command's own answer for permanent failures alone
abbrev pub forms_for : ℕ → List Form
forms_for code = if code / 1000 == 5 then form.Own ∷ form.Error ∷ form.Base ∷ [] else form.Error ∷ form.Base ∷ []

abbrev pub attempts_in : Extent → List Form → List Attempt
attempts_in e forms = map (λ f. record { form = f; extent = e }) forms

-- all with Error-Message and Failed-AVP, and then all without them
abbrev pub attempts_for : ℕ → List Attempt
attempts_for code = attempts_in extent.Full (forms_for code) ++ attempts_in extent.Bare (forms_for code)

-- the bytes are by the first attempt by which there is an answer
abbrev pub IsByFirst : Dictionary → Header → Parts → List Attempt → Form → List ℕ → Type 0
IsByFirst d h p [] f bytes = ⊥
IsByFirst d h p (a ∷ attempts) f bytes = ((f ≡ a.form) × IsBy d h p a bytes) ⊎ (HasNoneBy d h p a × IsByFirst d h p attempts f bytes)

-- the answer is of the first form of which there is one
pub record HasFirstForm (d : Dictionary) (u : Unknown) (most : Levels) (host realm request : List ℕ) (made : Made) : Type 0 where
  pub header : Header
  pub reads : IsRequestHead header request
  pub parts : Parts
  pub are_parts : AreParts d u most host realm request made.fault parts
  pub first : IsByFirst d header parts (attempts_for made.fault.code) made.form made.bytes.items

-- there is no answer of any form to the request
pub record HasNoForm (d : Dictionary) (u : Unknown) (most : Levels) (host realm request : List ℕ) : Type 0 where
  pub header : Header
  pub reads : IsRequestHead header request
  pub is_request : HasR header.flags
  pub fault : Fault
  pub recorded : IsRecorded d u most request fault
  pub parts : Parts
  pub are_parts : AreParts d u most host realm request fault parts
  pub none : AllByRecursion (HasNoneBy d header parts) (attempts_for fault.code)

-- the R flag is set
abbrev pub IsRequest : List ℕ → Type 0
IsRequest bytes = (h : Header) × IsRequestHead h bytes × HasR h.flags

-- why there is no answer
abbrev pub IsNoAnswer : Dictionary → Unknown → Levels → List ℕ → NoAnswer → Type 0
IsNoAnswer d u most bytes no_answer.Short = length bytes < 20
IsNoAnswer d u most bytes no_answer.Answer = (h : Header) × IsRequestHead h bytes × (¬ HasR h.flags)
IsNoAnswer d u most bytes no_answer.Truncated = IsRequest bytes × IsAnswer d u most bytes (Err refusal.Truncated)
IsNoAnswer d u most bytes no_answer.Trailing = IsRequest bytes × IsAnswer d u most bytes (Err refusal.Trailing)
IsNoAnswer d u most bytes no_answer.Valid = IsRequest bytes × IsValid d u most bytes
IsNoAnswer d u most bytes no_answer.TooLong = IsRequest bytes × ((fault : Fault) × IsRecorded d u most bytes fault)

-- the answer that is due to the request
pub record IsDue (d : Dictionary) (u : Unknown) (most : Levels) (host realm request : List ℕ) (made : Made) : Type 0 where
  pub is_request : IsRequest request
  pub recorded : IsRecorded d u most request made.fault
  pub first : HasFirstForm d u most host realm request made

-- what is answered of the bytes: the answer that is due, or why there is none
abbrev pub IsAnswered : Dictionary → Unknown → Levels → List ℕ → List ℕ → List ℕ → Result Made NoAnswer → Type 0
IsAnswered d u most host realm bytes (Ok made) = IsDue d u most host realm bytes made
IsAnswered d u most host realm bytes (Err no_answer.TooLong) = HasNoForm d u most host realm bytes
IsAnswered d u most host realm bytes (Err why) = IsNoAnswer d u most bytes why

-- the same bytes, of the same form and for the same fault, or the same reason for there being none
abbrev pub AreSame : Result Made NoAnswer → Result Made NoAnswer → Type 0
AreSame (Ok made) (Ok other) = (made.bytes.items ≡ other.bytes.items) × (made.form ≡ other.form) × (made.fault ≡ other.fault)
AreSame (Err why) (Err other) = why ≡ other
AreSame one other = ⊥

-- its word
abbrev pub no_answer_word : NoAnswer → List ℕ
no_answer_word no_answer.Short = codes "short"
no_answer_word no_answer.Answer = codes "answer"
no_answer_word no_answer.Truncated = codes "truncated"
no_answer_word no_answer.Trailing = codes "trailing"
no_answer_word no_answer.Valid = codes "valid"
no_answer_word no_answer.TooLong = codes "too long"

-- an answer that was made
abbrev pub OnMade : (Made → Type 0) → Result (Result Made NoAnswer) AllocError → Type 0
OnMade P result = IfOk result (λ found. IfOk found P)

-- ---- what the parts of the code answer

-- the message by these rules, and valid
pub record IsWritten (d : Dictionary) (f : Form) (rules : List DRule) (e : Extent) (c : Contents) (bytes : List ℕ) : Type 0 where
  pub stock : List PlainAvp
  pub is_stock : IsStock d f rules (in_extent e (parts_of c)) stock
  pub listed : IsListed f rules stock
  pub room : ¬ IsTooLong (in_order rules stock)
  pub message : MessageWithZeros (answer_header c.header f) (in_order rules stock) bytes
  pub are_bytes : AreBytes bytes
  pub valid : IsValid (opaque d) c.unknown c.levels bytes

pub record IsAnswerBy (d : Dictionary) (c : Contents) (made : Made) : Type 0 where
  pub fault : made.fault ≡ c.fault
  pub permanent : IsFormFor c.fault.code made.form
  pub command : PlainDefinition
  pub is_command : IsCommandOf d c.header made.form command
  pub are_rules : AreRules command.rules
  pub extent : Extent
  pub written : IsWritten d made.form command.rules extent c made.bytes.items

-- the answer of one of the forms, by the dictionary or the base dictionary
abbrev pub IsAnswerOf : Dictionary → Contents → Made → Type 0
IsAnswerOf d c made = IsAnswerBy (form_dictionary made.form d) c made

-- whether there is an answer of a form
abbrev pub IsTried : Dictionary → Contents → Form → Extent → Option Made → Type 0
IsTried d c f e None = (bytes : List ℕ) → ¬ IsOfForm d c.header f (in_extent e (parts_of c)) bytes
IsTried d c f e (Some made) = (made.fault ≡ c.fault) × (made.form ≡ f) × IsOfForm d c.header f (in_extent e (parts_of c)) made.bytes.items

-- the first answer by one of these attempts
abbrev pub AreTried : Dictionary → Contents → List Attempt → Option Made → Type 0
AreTried d c attempts None = AllByRecursion (HasNoneBy d c.header (parts_of c)) attempts
AreTried d c attempts (Some made) = (made.fault ≡ c.fault) × IsByFirst d c.header (parts_of c) attempts made.form made.bytes.items
