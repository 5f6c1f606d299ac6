-- Each piece stands behind those before it.
use Rattle.text.proofs.Appends.{exact, both_within}
use Rattle.npy_front.specs.Front.{opening, separator, closing, dictionary_text}
use Rattle.npy_front.proofs.append_dictionary.Goals as goal

pub returns : goal.returns
unfolding dictionary_text opening separator closing
returns c =
    both_within (exact c.append-opened.ensures)
    (both_within c.append_decimal-one.ensures
    (both_within (exact c.append-parted.ensures)
    (both_within c.append_decimal-two.ensures
    (both_within (exact c.append-again.ensures)
    (both_within c.append_decimal-three.ensures (exact c.append.ensures))))))
