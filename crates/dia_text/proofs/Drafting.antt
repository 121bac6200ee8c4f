-- How a message under way is kept.
use Rattle.std.proofs.Common.{◌≡◌, ℕ, ◌+◌, List, [], ◌∷◌, ◌++◌, length, take, drop, Option, Some, None, Result, Ok, Err, refl, sym, ap, subst, ◌∙◌, append_assoc, arith}
use Rattle.std.proofs.lemmas.List.{append-nil, length-append, same_from_push, take_at, drop_at}
use Rattle.byteorder.specs.Endian.{big_bytes}
use Rattle.dia_wire.specs.Wire.{head_length}
use Rattle.dia_wire.specs.Written.{vendor_bytes}
use Rattle.dia_text.specs.declared.draft.Opened.{Opened}
use Rattle.dia_text.specs.declared.line.Head.{Head}
use Rattle.dia_text.specs.declared.fault.Kind.{Kind}
use Rattle.dia_text.specs.declared.fault.Misread.{Misread}
use Rattle.dia_text.specs.declared.fault.Misread.TheVariants as misread
use Rattle.dia_text.specs.PlainLines.{Leaf}
use Rattle.dia_text.specs.Drafts.{Frame, Level, Occurs, IsAdded, IsAppended, added, closed, front_bytes, length_of, end_bytes, avp_of}

front_parts : (code flags n : ℕ) (o : Option ℕ) → length (big_bytes 4 code ++ (flags ∷ big_bytes 3 n) ++ vendor_bytes o) ≡ head_length o
front_parts code flags n None = refl
front_parts code flags n (Some vendor) = refl

pub front_length : (head : Head) (n : ℕ) → length (front_bytes head n) ≡ head_length head.code.vendor
front_length head n = front_parts head.code.code head.flags n head.code.vendor

pub occurs_more : (fs : List Frame) (bytes out : List ℕ) (groups : List Opened) (x : List ℕ) → Occurs fs bytes out groups → Occurs fs (bytes ++ x) (out ++ x) groups
occurs_more [] bytes out groups x (same, none) = (ap (λ (t : List ℕ). t ++ x) same, none)
occurs_more (f ∷ fs) bytes out groups x (o, rest, p, q, s) =
    (o, rest, p, ap (λ (t : List ℕ). t ++ x) q ∙ append_assoc o (front_bytes f.head 0 ++ bytes) x ∙ ap (λ (t : List ℕ). o ++ t) (append_assoc (front_bytes f.head 0) bytes x), s)

pub occurs_open : (fs : List Frame) (bytes out : List ℕ) (groups : List Opened) (head : Head) → Occurs fs bytes out groups
    → Occurs (record { before = bytes; head = head } ∷ fs) [] (out ++ front_bytes head 0) (groups ++ record { place = length out; head = head } ∷ [])
occurs_open fs bytes out groups head s = (out, groups, refl, ap (λ (t : List ℕ). out ++ t) (sym (append-nil (front_bytes head 0))), s)

-- the innermost group
pub record IsInnermost (fs : List Frame) (bytes out : List ℕ) (rest : List Opened) (g : Opened) : Type 0 where
  pub frame : Frame
  pub more : List Frame
  pub o : List ℕ
  pub frames : fs ≡ frame ∷ more
  pub place : g.place ≡ length o
  pub head : g.head ≡ frame.head
  pub parts : out ≡ o ++ (front_bytes frame.head 0 ++ bytes)
  pub occurs : Occurs more frame.before o rest

pub innermost : (fs : List Frame) (bytes out : List ℕ) (groups rest : List Opened) (g : Opened) → Occurs fs bytes out groups → groups ≡ rest ++ g ∷ [] → IsInnermost fs bytes out rest g
innermost [] bytes out groups rest g (same, none) is = absurd (omega (arith, ap length (sym none ∙ is), length-append rest (g ∷ [])))
innermost (f ∷ more) bytes out groups rest g (o, r, p, q, s) is =
    let made : Opened = record { place = length o; head = f.head } in
    let (same, last) = same_from_push r rest made g (sym p ∙ is) in
    record {
      frame = f;
      more = more;
      o = o;
      frames = refl;
      place = ap (λ (x : Opened). x.place) (sym last);
      head = ap (λ (x : Opened). x.head) (sym last);
      parts = q;
      occurs = subst (λ (xs : List Opened). Occurs more f.before o xs) same s;
    }

pub no_group : (fs : List Frame) (bytes out : List ℕ) (groups : List Opened) → Occurs fs bytes out groups → length groups ≡ 0 → fs ≡ []
no_group [] bytes out groups s none = refl
no_group (f ∷ fs) bytes out groups (o, rest, p, q, s) none =
    absurd (omega (arith, none, ap length p, length-append rest (record { place = length o; head = f.head } ∷ [])))

-- the head, the data and nothing else follow the place
pub room : (fs : List Frame) (bytes out : List ℕ) (rest : List Opened) (g : Opened) → IsInnermost fs bytes out rest g → g.place + head_length g.head.code.vendor + length bytes ≡ length out
room fs bytes out rest g i =
    let whole : length out ≡ length i.o + length (front_bytes i.frame.head 0 ++ bytes) = ap length i.parts ∙ length-append i.o (front_bytes i.frame.head 0 ++ bytes) in
    let inner = length-append (front_bytes i.frame.head 0) bytes in
    let front = front_length i.frame.head 0 in
    let same : head_length g.head.code.vendor ≡ head_length i.frame.head.code.vendor = ap (λ (h : Head). head_length h.code.vendor) i.head in
    omega (arith, whole, inner, front, same, i.place)

pub close_fails : (kind : Kind) (fs : List Frame) (bytes out : List ℕ) (rest : List Opened) (g : Opened) (pad : Option (List ℕ)) (count : ℕ) → IsInnermost fs bytes out rest g → count ≡ length bytes
    → length_of g.head count ≡ Err kind → closed fs bytes pad ≡ Err kind
unfolding avp_of
close_fails kind fs bytes out rest g pad count i is h =
    let fails : length_of i.frame.head (length bytes) ≡ Err kind = ap (λ (n : ℕ). length_of i.frame.head n) (sym is) ∙ ap (λ (x : Head). length_of x count) (sym i.head) ∙ h in
    ap (λ (xs : List Frame). closed xs bytes pad) i.frames ∙ rw fails refl

pub close_adds : (fs : List Frame) (bytes out front new : List ℕ) (rest : List Opened) (g : Opened) (pad : Option (List ℕ)) (count len : ℕ) → IsInnermost fs bytes out rest g → count ≡ length bytes
    → length_of g.head count ≡ Ok len → front ≡ take g.place out ++ (front_bytes g.head len ++ drop (g.place + head_length g.head.code.vendor) out)
    → new ≡ front ++ end_bytes g.head count pad → IsAdded (closed fs bytes pad) (Ok tt) new rest
unfolding avp_of
close_adds fs bytes out front new rest g pad count len i is fine written ended =
    let h = i.frame.head in
    let fits : length_of h (length bytes) ≡ Ok len = ap (λ (n : ℕ). length_of h n) (sym is) ∙ ap (λ (x : Head). length_of x count) (sym i.head) ∙ fine in
    let avp = front_bytes h len ++ (bytes ++ end_bytes h (length bytes) pad) in
    let read : closed fs bytes pad ≡ Ok (record { outer = i.more; bytes = i.frame.before ++ avp }) = ap (λ (xs : List Frame). closed xs bytes pad) i.frames ∙ rw fits refl in
    let before : take g.place out ≡ i.o = ap (take g.place) i.parts ∙ take_at i.o (front_bytes h 0 ++ bytes) g.place (sym i.place) in
    let size : length (i.o ++ front_bytes h 0) ≡ g.place + head_length g.head.code.vendor =
    length-append i.o (front_bytes h 0) ∙ ap (λ (n : ℕ). length i.o + n) (front_length h 0 ∙ ap (λ (x : Head). head_length x.code.vendor) (sym i.head)) ∙ ap (λ (n : ℕ). n + head_length g.head.code.vendor) (sym i.place) in
    let following : drop (g.place + head_length g.head.code.vendor) out ≡ bytes =
    ap (drop (g.place + head_length g.head.code.vendor)) (i.parts ∙ sym (append_assoc i.o (front_bytes h 0) bytes)) ∙ drop_at (i.o ++ front_bytes h 0) bytes (g.place + head_length g.head.code.vendor) size in
    let ends : end_bytes g.head count pad ≡ end_bytes h (length bytes) pad = ap (λ (x : Head). end_bytes x count pad) i.head ∙ ap (λ (n : ℕ). end_bytes h n pad) is in
    let is_front : front ≡ i.o ++ (front_bytes h len ++ bytes) = written ∙ rw (before, following, i.head) refl in
    let is_new : new ≡ i.o ++ avp = ended ∙ rw (is_front, ends) (regroup i.o (front_bytes h len) bytes (end_bytes h (length bytes) pad)) in
    (record { outer = i.more; bytes = i.frame.before ++ avp }, read, subst (λ (t : List ℕ). Occurs i.more (i.frame.before ++ avp) t rest) (sym is_new) (occurs_more i.more i.frame.before i.o rest avp i.occurs))
  where
    regroup : (a b c d : List ℕ) → (a ++ (b ++ c)) ++ d ≡ a ++ (b ++ (c ++ d))
    regroup a b c d = append_assoc a (b ++ c) d ∙ ap (λ (t : List ℕ). a ++ t) (append_assoc b c d)

pub leaf_adds : (level : Level) (out new : List ℕ) (groups : List Opened) (head : Head) (bytes : List ℕ) (pad : Option (List ℕ)) (r : Result (Unit {0}) Misread) → Occurs level.outer level.bytes out groups
    → IsAppended (avp_of head bytes pad) r out new → IsAdded (added level (Leaf head bytes pad)) r new groups
leaf_adds level out new groups head bytes pad (Ok u) s (avp, read, is) =
    (record { outer = level.outer; bytes = level.bytes ++ avp }, rw read refl, subst (λ (t : List ℕ). Occurs level.outer (level.bytes ++ avp) t groups) (sym is) (occurs_more level.outer level.bytes out groups avp s))
leaf_adds level out new groups head bytes pad (Err misread.NoMemory) s h = tt
leaf_adds level out new groups head bytes pad (Err (misread.Fault kind)) s h = rw h refl

-- the parts of a header, added one by one
pub header_written : (old t1 t2 t3 t4 t5 a b c d e : List ℕ) → t1 ≡ old ++ a → t2 ≡ t1 ++ b → t3 ≡ t2 ++ c → t4 ≡ t3 ++ d → t5 ≡ t4 ++ e → t5 ≡ old ++ (a ++ b ++ c ++ d ++ e)
header_written old t1 t2 t3 t4 t5 a b c d e e1 e2 e3 e4 e5 = rw (e5, e4, e3, e2, e1) (simp append_assoc)
