mod LabelsInOrder
mod Printed
mod ExtraTokens
mod StepTokens
mod ConstantTexts
mod ImpactTokens
pub mod Putting
mod ReportTexts
mod ShownTexts
mod Plain
mod DigestsPlain
mod ShortNamesPlain
