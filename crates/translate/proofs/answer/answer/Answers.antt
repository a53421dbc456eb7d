use Rattle.translate.specs.Translate.{place_in, answer_of}
use Rattle.translate.proofs.answer.answer.Goals as goal

pub returns-in-Plain : goal.returns-in-Plain
unfolding answer_of place_in
returns-in-Plain c = rw c.in-Plain.is c.in_buffer.ensures

pub returns-in-Copy : goal.returns-in-Copy
unfolding answer_of place_in
returns-in-Copy c = rw c.in-Copy.is c.in_data.ensures

pub returns-in-Region : goal.returns-in-Region
unfolding answer_of place_in
returns-in-Region c = rw c.in-Region.is c.in_region.ensures
