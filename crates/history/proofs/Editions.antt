-- The edition over a history's calls: an accepted begin gives it, and every other call writes elsewhere. Assumes nothing.
use Prim.Native.Nat.{ℕ, ◌-◌}
use mathlib.Core.Path.{◌≡◌, refl, ◌∙◌}
use mathlib.Core.List.{List}
use lib.Dec.{ltb}
use lib.ListN.{length}
use Rattle.choice.proofs.Tests.{by_test}
use Rattle.refusal.proofs.Checks.{by_check, check_passed}
use Rattle.control.specs.Control.{invocations, edition, size_of}
use Rattle.control.specs.declared.shadow.Region.{Region}
use Rattle.control.proofs.Records.{record_edition, pages_only}
use Rattle.frames.proofs.OnlyTable.{OnlyTable, table_put, table_edition}
use Rattle.segments.specs.Kinds.{kind_store, kind_store_span}
use Rattle.translate.specs.Translate.{translate_of}
use Rattle.translate.specs.declared.place.Place.{Place}
use Rattle.translate.specs.declared.place.Place.TheVariants.{InSnapshot, InControl, Zeros, InPool, Take}
use Rattle.access.specs.Stores.{copy_entry, prepared_control, control_after, store_control}
use Rattle.records.specs.Layout.{Layout, encoded, valid_fields}
use Rattle.records.specs.Calls.{write_control}
use Rattle.invoke.specs.Invoke.{begin_number}
use Rattle.invoke.proofs.Editions.{or_edition, begin_edition, call_edition, return_edition}
use Rattle.regions.specs.Resize.{grow_check, grow_to, shrink_check, shrink_control, sized, resize_to, resize_check, region_of, resize_of}
use Rattle.regions.proofs.Grown.{grown_only}
use Rattle.regions.proofs.Shrunk.{shrunk_only}
use Rattle.hekthumar.specs.Steps.{begin, translation, load, store, fetch, load_span, store_span, read_record, write_record, call, return, resize, change_list, page_view, step_of}
use Rattle.history.specs.Calls.{effect}
use Rattle.history.specs.Editions.{BeginTakes, OthersKeep}
use Rattle.std.specs.Prelude.{Err, Ok}
use Rattle.translate.specs.Place.{Translation}

module _ (s c p : List ℕ) where
  -- ---- a store writes an entry of the frame table, if anything

  place_edition : (q : Place) → edition (prepared_control c q) ≡ edition c
  place_edition (InSnapshot at) = refl
  place_edition (InControl at) = refl
  place_edition Zeros = refl
  place_edition (InPool at) = refl
  place_edition (Take t) = table_edition (table_put c t.frame.0 (copy_entry c t))

  after_edition : (t : Translation) → edition (control_after c t) ≡ edition c
  after_edition (Ok q) = place_edition q
  after_edition (Err r) = refl

  store_edition : (kind a n : ℕ) → edition (store_control s c p kind a n) ≡ edition c
  unfolding store_control
  store_edition kind a n = after_edition (translate_of s c p kind a n)

  write_edition : (l : Layout) (a : ℕ) (fields : List ℕ) → edition (write_control s c p l a fields) ≡ edition c
  unfolding write_control
  write_edition l a fields =
      by_test (valid_fields l fields) (λ t. rw t (store_edition kind_store_span a (length (encoded l.widths fields)))) (λ t. rw t)

  -- ---- a resize writes entries, and a size in a record

  sized-edition : (g : List ℕ) (r : Region) (n : ℕ) → OnlyTable c g → edition (sized g r n) ≡ edition c
  sized-edition g r n o = record_edition (invocations g) (pages_only g (invocations g) r n) ∙ table_edition o

  resized_edition : (r : Region) (n : ℕ) → edition (resize_to c p r n).after.control ≡ edition c
  unfolding resize_to grow_to shrink_control
  resized_edition r n =
      by_test (ltb (size_of c r) n)
      (λ t. rw t (or_edition (grow_check c r n) c _ (λ e. sized-edition _ r n (grown_only r (size_of c r) c p (n - size_of c r)))))
      (λ t.
      rw t
      (by_test (ltb n (size_of c r)) (λ u. rw u (or_edition (shrink_check c r n) c _ (λ e. sized-edition _ r n (shrunk_only c r n (size_of c r - n))))) (λ u. rw u)))

  resize_edition : (code n : ℕ) → edition (resize_of s c p code n).after.control ≡ edition c
  unfolding resize_of
  resize_edition code n =
      by_check (resize_check s c p code n) (λ e. rw e (resized_edition (region_of code) n)) (λ r e. rw e)

-- ---- the calls

pub others_keep : OthersKeep
unfolding step_of effect
others_keep s b (begin x) h = absurd (h refl)
others_keep s b (translation kind a n) h = refl
others_keep s b (load a n) h = refl
others_keep s b (store a n v) h = store_edition s b.control b.pool kind_store a n
others_keep s b (fetch a n) h = refl
others_keep s b (load_span a out) h = refl
others_keep s b (store_span a bytes) h = store_edition s b.control b.pool kind_store_span a (length bytes)
others_keep s b (read_record l a) h = refl
others_keep s b (write_record l a fields) h = write_edition s b.control b.pool l a fields
others_keep s b (call a registers) h = call_edition s b.control b.pool a registers
others_keep s b (return registers) h = return_edition s b.control b.pool registers
others_keep s b (resize region n) h = resize_edition s b.control b.pool region n
others_keep s b (change_list out) h = refl
others_keep s b (page_view a q) h = refl

pub begin_takes : BeginTakes
unfolding step_of begin_number
begin_takes s b x e = begin_edition s b.control b.pool x (check_passed _ e)
