use Rattle.std.proofs.Common.{[], ◌∷◌, arith}
use Rattle.chrono_text.proofs.LaneLemmas.{shares_add_up}
use Rattle.chrono_text.proofs.read.lanes.few_digits_value.Goals as goal

pub returns : goal.returns
returns c =
    let shares =
    c.share.result ∷ c.share-2.result ∷ c.share-3.result ∷ c.share-4.result
    ∷ c.share-5.result ∷ c.share-6.result ∷ c.share-7.result ∷ c.share-8.result ∷ [] in
    let add_up = shares_add_up c.args.bytes.now c.args.len shares (omega arith) c.requires.few c.requires.digits (
      (c.share.ensures.inside, c.share.ensures.behind),
      (
        (c.share-2.ensures.inside, c.share-2.ensures.behind),
        (
          (c.share-3.ensures.inside, c.share-3.ensures.behind),
          (
            (c.share-4.ensures.inside, c.share-4.ensures.behind),
            (
              (c.share-5.ensures.inside, c.share-5.ensures.behind),
              (
                (c.share-6.ensures.inside, c.share-6.ensures.behind),
                (
                  (c.share-7.ensures.inside, c.share-7.ensures.behind),
                  (
                    (c.share-8.ensures.inside, c.share-8.ensures.behind),
                    tt,
                  ),
                ),
              ),
            ),
          ),
        ),
      ),
    ) in
    omega (arith, add_up)
