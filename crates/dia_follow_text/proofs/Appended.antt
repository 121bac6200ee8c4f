-- Texts that are added one after the other.
use Rattle.std.proofs.Common.{◌≡◌, ℕ, ◌+◌, ◌<◌, ◌≤◌, List, ◌++◌, Option, Some, Result, Ok, Err, is_ok, OnOk, codes, get_or, length, take, ap, sym, ◌∙◌, append_assoc}
use Rattle.std.specs.Prelude.{if◌then◌else◌}
use Rattle.std.specs.List.{flat_map}
use Rattle.std.proofs.lemmas.List.{flat_map_more, take_all, take_more}
use Rattle.std.specs.Fmt.{decimal}
use Rattle.json.specs.Print.{quoted}
use Rattle.dia_dict.specs.Dictionary.{Dictionary}
use Rattle.dia_follow.specs.declared.End.{End}
use Rattle.dia_follow.specs.declared.Head.{Head}
use Rattle.dia_follow.specs.declared.Line.{Line}
use Rattle.dia_follow.specs.declared.Message.{Message}
use Rattle.dia_follow.specs.declared.Reason.{Reason}
use Rattle.dia_follow.specs.declared.Request.{Request}
use Rattle.dia_follow.specs.Messages.{result_of}
use Rattle.dia_follow.specs.Moments.{PlainMoment}
use Rattle.dia_follow_text.specs.declared.entry.BadLine.{BadLine}
use Rattle.dia_follow_text.specs.Details.{detail_text, other_line}
use Rattle.dia_follow_text.specs.Entries.{bad_line_text, bad_word}
use Rattle.dia_follow_text.specs.Names.{name_of}
use Rattle.dia_follow_text.specs.Objects.{answered_members, bad_line_object, begin_text, duration_member, finding_object, head_members, identifier_members}
use Rattle.dia_follow_text.specs.Objects.{line_member, message_object, reason_members, rest_members}
use Rattle.dia_follow_text.specs.Reasons.{section}
use Rattle.dia_follow_text.specs.Said.{head_text, kind_word, message_line, rest_text}
use Rattle.dia_follow_text.specs.Times.{after}

-- what `push_str` added, unless memory was refused
pub when_ok : {E : Type 0} (r : Result (Unit {0}) E) (new longer old : List ℕ) → new ≡ (if is_ok r then longer else old) → OnOk r (new ≡ longer)
when_ok (Ok u) new longer old is = is
when_ok (Err e) new longer old is = tt

pub added : (was a b t u : List ℕ) → t ≡ was ++ a → u ≡ t ++ b → u ≡ was ++ (a ++ b)
added was a b t u h k = k ∙ ap (λ (x : List ℕ). x ++ b) h ∙ append_assoc was a b

-- a word, a fixed text, a number and the end
regroup : (a b c e : List ℕ) → a ++ (b ++ (c ++ e)) ≡ ((a ++ b) ++ c) ++ e
regroup a b c e = sym (append_assoc a b (c ++ e)) ∙ sym (append_assoc (a ++ b) c e)

-- ---- a line that is refused

pub bad_object_added : (was new word : List ℕ) (number : ℕ) (bad : BadLine) → word ≡ bad_word bad
    → new ≡ was ++ (codes "{\"error\":\"connection\",\"kind\":\"" ++ (word ++ (codes "\",\"line\":" ++ (decimal number ++ codes "}\n"))))
    → new ≡ was ++ bad_line_object number bad
bad_object_added was new word number bad h k =
    k ∙ ap (λ (w : List ℕ). was ++ (codes "{\"error\":\"connection\",\"kind\":\"" ++ (w ++ (codes "\",\"line\":" ++ (decimal number ++ codes "}\n"))))) h
    ∙ ap (λ (t : List ℕ). was ++ (codes "{\"error\":\"connection\",\"kind\":\"" ++ t)) (regroup (bad_word bad) (codes "\",\"line\":") (decimal number) (codes "}\n"))

pub bad_line_added : (was new word : List ℕ) (number : ℕ) (bad : BadLine) → word ≡ bad_word bad
    → new ≡ was ++ (codes "connection: " ++ (word ++ (codes " at line " ++ (decimal number ++ codes "\n")))) → new ≡ was ++ bad_line_text number bad
bad_line_added was new word number bad h k =
    k ∙ ap (λ (w : List ℕ). was ++ (codes "connection: " ++ (w ++ (codes " at line " ++ (decimal number ++ codes "\n"))))) h
    ∙ ap (λ (t : List ℕ). was ++ (codes "connection: " ++ t)) (regroup (bad_word bad) (codes " at line ") (decimal number) (codes "\n"))

-- ---- a message

pub answered_added : (was one new : List ℕ) (m : PlainMoment) (q : Request) (l : Line) (n : Option ℕ) → Some q ≡ m.request → l ≡ m.line → n ≡ after q.time l.time
    → one ≡ was ++ (codes ",\"answers\":" ++ decimal q.line) → new ≡ one ++ duration_member n → new ≡ was ++ answered_members m.line.time m.request
answered_added was one new m q l n is at so h k =
    added was (codes ",\"answers\":" ++ decimal q.line) (duration_member n) one new h k
    ∙ ap (λ (o : Option ℕ). was ++ ((codes ",\"answers\":" ++ decimal q.line) ++ duration_member o)) (so ∙ ap (λ (x : Line). after q.time x.time) at)
    ∙ ap (λ (o : Option Request). was ++ answered_members m.line.time o) is

pub head_added : (was one new name word : List ℕ) (d : Dictionary) (h : Head) → name ≡ quoted (name_of d h.code h.request h.app) → word ≡ kind_word h.request
    → one ≡ was ++ (codes ",\"message\":\"" ++ (word ++ (codes "\",\"command\":" ++ name))) → new ≡ one ++ identifier_members h → new ≡ was ++ head_members d h
head_added was one new name word d h is_name is_word is k =
    let quote = quoted (name_of d h.code h.request h.app) in
    let front : List ℕ = ((codes ",\"message\":\"" ++ kind_word h.request) ++ codes "\",\"command\":") ++ quote in
    let begun : one ≡ was ++ front = is ∙ ap (λ (w : List ℕ). was ++ (codes ",\"message\":\"" ++ (w ++ (codes "\",\"command\":" ++ name)))) is_word
    ∙ ap (λ (n : List ℕ). was ++ (codes ",\"message\":\"" ++ (kind_word h.request ++ (codes "\",\"command\":" ++ n)))) is_name
    ∙ ap (λ (t : List ℕ). was ++ (codes ",\"message\":\"" ++ t)) (sym (append_assoc (kind_word h.request) (codes "\",\"command\":") quote)) in
    added was front (identifier_members h) one new begun k

pub object_added : (was one two three new : List ℕ) (d : Dictionary) (e : End) (m : PlainMoment) (l : Line) (q : Message) → l ≡ m.line → q ≡ m.message
    → one ≡ was ++ begin_text l.number e → two ≡ one ++ head_members d q.head → three ≡ two ++ rest_members m → new ≡ three ++ codes "}\n"
    → new ≡ was ++ message_object d e m
object_added was one two three new d e m l q is_line is_message h k r n =
    added was ((begin_text m.line.number e ++ head_members d m.message.head) ++ rest_members m) (codes "}\n") three new
    (added was (begin_text m.line.number e ++ head_members d m.message.head) (rest_members m) two three
    (added was (begin_text m.line.number e) (head_members d m.message.head) one two (h ∙ ap (λ (x : Line). was ++ begin_text x.number e) is_line)
    (k ∙ ap (λ (x : Message). one ++ head_members d x.head) is_message)) r) n

pub message_added : (was one two new : List ℕ) (d : Dictionary) (e : End) (m : PlainMoment) (l : Line) (q : Message) → l ≡ m.line → q ≡ m.message
    → one ≡ was ++ head_text d l.number e q.head → two ≡ one ++ rest_text m → new ≡ two ++ codes "\n" → new ≡ was ++ message_line d e m
message_added was one two new d e m l q is_line is_message h k n =
    added was (head_text d m.line.number e m.message.head ++ rest_text m) (codes "\n") two new
    (added was (head_text d m.line.number e m.message.head) (rest_text m) one two
    (h ∙ ap (λ (x : Line). was ++ head_text d x.number e q.head) is_line ∙ ap (λ (x : Message). was ++ head_text d m.line.number e x.head) is_message) k) n

-- ---- a departure or a note

pub finding_added : (was one two three new detail shown : List ℕ) (e : End) (m : PlainMoment) (verdict : List ℕ) (r : Reason) (l : Line) (number : Option (List ℕ)) (line : Option ℕ)
    → l ≡ m.line → shown ≡ detail → detail ≡ detail_text m verdict r → number ≡ section r (result_of m.message.body) → line ≡ other_line r m
    → one ≡ was ++ begin_text l.number e → two ≡ one ++ reason_members r number shown → three ≡ two ++ line_member r line → new ≡ three ++ codes "}\n"
    → new ≡ was ++ finding_object e m verdict r
finding_added was one two three new detail shown e m verdict r l number line is_line is_shown is_detail is_number is_other h k o n =
    let reason : List ℕ = reason_members r (section r (result_of m.message.body)) (detail_text m verdict r) in
    let first : one ≡ was ++ begin_text m.line.number e = h ∙ ap (λ (x : Line). was ++ begin_text x.number e) is_line in
    let second : two ≡ one ++ reason = k ∙ ap (λ (x : List ℕ). one ++ reason_members r number x) (is_shown ∙ is_detail)
    ∙ ap (λ (x : Option (List ℕ)). one ++ reason_members r x (detail_text m verdict r)) is_number in
    added was ((begin_text m.line.number e ++ reason) ++ line_member r (other_line r m)) (codes "}\n") three new
    (added was (begin_text m.line.number e ++ reason) (line_member r (other_line r m)) two three
    (added was (begin_text m.line.number e) reason one two first second) (o ∙ ap (λ (x : Option ℕ). two ++ line_member r x) is_other)) n

-- one more of them
pub one_more_found : (f : Reason → List ℕ) (found : List Reason) (i : ℕ) (r : Reason) (front old new : List ℕ) → i < length found
    → old ≡ front ++ flat_map f (take i found) → new ≡ old ++ f (get_or found i r) → new ≡ front ++ flat_map f (take (i + 1) found)
one_more_found f found i r front old new less h k =
    k ∙ ap (λ (t : List ℕ). t ++ f (get_or found i r)) h ∙ flat_map_more f front (take i found) (get_or found i r)
    ∙ ap (λ (rs : List Reason). front ++ flat_map f rs) (sym (take_more found i r less))

pub all_found : (f : Reason → List ℕ) (found : List Reason) (i : ℕ) (was front new : List ℕ) → length found ≤ i → new ≡ (was ++ front) ++ flat_map f (take i found)
    → new ≡ was ++ (front ++ flat_map f found)
all_found f found i was front new over h =
    h ∙ ap (λ (rs : List Reason). (was ++ front) ++ flat_map f rs) (take_all i found over) ∙ append_assoc was front (flat_map f found)
