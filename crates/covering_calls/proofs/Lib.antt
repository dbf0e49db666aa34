pub mod DecodedLaws
