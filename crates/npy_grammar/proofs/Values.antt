-- The values of the three keys: their reader finds them, and what it finds is one. Assumes nothing.
use Prim.Native.Nat.{ℕ}
use mathlib.Core.Path.{◌≡◌, refl, subst}
use mathlib.Core.Bool.{Bool, true, false, cond}
use mathlib.Core.List.{List}
use Rattle.npy_tokens.specs.declared.Class.TheVariants.{Space}
use Rattle.npy_tokens.specs.Tokens.{belongs, behind, after_bytes, begins_with, string_in, after_string}
use Rattle.npy_header.specs.Dictionary.{Dictionary, Key, Descr, FortranOrder, Shape, true_word, false_word}
use Rattle.npy_header.specs.Grammar.{Text, Truth, Sizes, Value}
use Rattle.npy_header.specs.Reading.{truth_in, after_truth, sizes_in, after_sizes}
use Rattle.npy_grammar.proofs.Pieces.{Reads, both, Filled}
use Rattle.npy_grammar.proofs.Spans.{span}
use Rattle.npy_grammar.proofs.Marks.{after_bytes_lem, token, bytes}
use Rattle.npy_grammar.proofs.Strings.{string_is, after_string_lem, text_at}
use Rattle.npy_grammar.proofs.Shapes.{sizes_are, after_sizes_lem, sizes_at}

-- ---- True and False
truth_is : (b : Bool) {bs r : List ℕ} → Reads (Truth b) bs r → truth_in bs ≡ b
unfolding true_word false_word belongs begins_with
truth_is true p = rw (token refl p)
truth_is false p = rw (token refl p)

after_truth_lem : (b : Bool) {bs r : List ℕ} → Reads (Truth b) bs r → after_truth bs ≡ r
unfolding true_word false_word belongs begins_with
after_truth_lem true {bs} {r} p = rw (token refl p) (after_bytes_lem true_word r)
after_truth_lem false {bs} {r} p = rw (token refl p) (after_bytes_lem false_word r)

truth_by : (bs : List ℕ) (t : Bool) → let r = after_bytes (cond t true_word false_word) (behind Space bs) in
    Filled r → Reads (Truth t) bs r
truth_by bs true h = both (span Space bs) (bytes true_word (behind Space bs) h)
truth_by bs false h = both (span Space bs) (bytes false_word (behind Space bs) h)

-- ---- by the key: what kind of value it has, what a dictionary says, and what is read in a text
abbrev pub Kind : Key → Type 0
Kind Descr = List ℕ
Kind FortranOrder = Bool
Kind Shape = List ℕ

abbrev pub said : Dictionary → (k : Key) → Kind k
said d Descr = d.descr
said d FortranOrder = d.fortran_order
said d Shape = d.shape

abbrev pub value_in : (k : Key) → List ℕ → Kind k
value_in Descr bs = string_in bs
value_in FortranOrder bs = truth_in bs
value_in Shape bs = sizes_in bs

abbrev pub after_value : Key → List ℕ → List ℕ
after_value Descr bs = after_string bs
after_value FortranOrder bs = after_truth bs
after_value Shape bs = after_sizes bs

pub value_is : (d : Dictionary) (k : Key) {bs r : List ℕ} → Reads (Value d k) bs r → value_in k bs ≡ said d k
unfolding Value
value_is d Descr p = string_is d.descr p
value_is d FortranOrder p = truth_is d.fortran_order p
value_is d Shape p = sizes_are d.shape p

pub after_value_lem : (d : Dictionary) (k : Key) {bs r : List ℕ} → Reads (Value d k) bs r → after_value k bs ≡ r
unfolding Value
after_value_lem d Descr p = after_string_lem d.descr p
after_value_lem d FortranOrder p = after_truth_lem d.fortran_order p
after_value_lem d Shape p = after_sizes_lem d.shape p

pub value_at : (d : Dictionary) (k : Key) (bs : List ℕ) → value_in k bs ≡ said d k → Filled (after_value k bs)
    → Reads (Value d k) bs (after_value k bs)
unfolding Value
value_at d Descr bs e h = subst (λ (s : List ℕ). Reads (Text s) bs (after_string bs)) e (text_at bs h)
value_at d FortranOrder bs e h = subst (λ (b : Bool). Reads (Truth b) bs (after_truth bs)) e (truth_by bs (truth_in bs) h)
value_at d Shape bs e h = subst (λ (ns : List ℕ). Reads (Sizes ns) bs (after_sizes bs)) e (sizes_at bs h)
